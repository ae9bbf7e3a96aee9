use Rattle.std.proofs.Common.{sym, inl, inr, arith}
use Rattle.std.proofs.lemmas.Bool.{eqb-false, true≢false}
use Rattle.std.proofs.lemmas.Option.{slice_get_within}
use Rattle.world.specs.declared.event.Event.TheVariants.{Load}
use Rattle.script_events.proofs.Growing.{no_load_yet}
use Rattle.script_events.proofs.changing.is_used.Goals as goal

pub loop-event-preserved : goal.loop-event-preserved
loop-event-preserved c = no_load_yet _ _ _ _ _ c.event-item.is c.loop-event.invariant (λ dump is. absurd (let told = c.is_load.ensures.1 (dump, is) in let no = c.if-is_load.false in cc))

pub returns : goal.returns
returns c = (
  λ yes. absurd (true≢false (sym yes)),
  λ was. elim was [
    | inl in_use ↦ absurd (eqb-false _ _ (c.if-contains.ensures.cases in_use.0 c.args.incarnation (omega arith) in_use.1) in_use.2)
    | inr load ↦ absurd (c.loop-event.invariant load.0 load.1 (let lt = slice_get_within c.args.events.now load.0 (Load load.1 c.args.vnode c.args.incarnation) load.2 in let end = c.loop-event-test.false in omega (arith, lt, end)) load.2)
  ],
)
