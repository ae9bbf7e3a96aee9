use Rattle.std.proofs.Common.{List, sym, subst, arith, refl}
use Rattle.world.specs.declared.event.Event.{Event}
use Rattle.world.specs.Running.{IsDumpAt, IsUsed}
use Rattle.script_events.proofs.Growing.{one_more}
use Rattle.script_events.proofs.reading.Reader.read_load.Goals as goal

-- is_used answered false, so the incarnation is in use neither from the start on nor by a load of the script
pub returns-clause-runnable : goal.returns-clause-runnable
returns-clause-runnable c listed runnable = one_more _ _ _ _ _ _ runnable (
  omega arith,
  subst (λ (es : List Event). IsDumpAt es c.in-Some.dump) c.deref.ensures.value c.in-Some.ensures.of_sort,
  λ was. absurd (let told = c.is_used.ensures.1 (subst (λ (es : List Event). IsUsed c.args.used.now es c.args.vnode c.args.incarnation) (sym c.deref-2.ensures.value) was) in let no = c.if-is_used.false in cc),
)
    c.in_ok-push.ensures.more refl
