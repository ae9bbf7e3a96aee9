use Rattle.std.proofs.Common.{◌≤◌, ◌↔◌, ◌∙◌, List, Err, ap, subst, sym}
use Rattle.std.specs.Prelude.{IsTrue}
use Rattle.dvv.specs.declared.Dot.{Dot}
use Rattle.dvv.specs.Clock.{vnodes_together}
use Rattle.journal.specs.Limits.{TakesClock}
use Rattle.key_state.specs.Parts.{Partial}
use Rattle.vnode.specs.declared.fault.PartFault.TheVariants.{Refused}
use Rattle.vnode.specs.Parts.{RefusesBroughtAt}
use Rattle.vnode.proofs.Lacking.{not_missing}
use Rattle.vnode.proofs.parts.make_whole.Goals as goal

pub returns-in-Err-Merge-clause-why : goal.returns-in-Err-Merge-clause-why
returns-in-Err-Merge-clause-why c =
    let fits : IsTrue c.can_join.result ↔ TakesClock c.in-Some.prepared.clock c.args.own.now =
    subst (λ (clock : List Dot). IsTrue c.can_join.result ↔ (vnodes_together c.args.own.now.clock clock ≤ 1024)) (c.clock-clock.ensures ∙ ap (λ (p : Partial). p.clock) c.part.ensures)
    (subst (λ (clock : List Dot). IsTrue c.can_join.result ↔ (vnodes_together clock c.clock-clock.result.now ≤ 1024)) c.clock.ensures c.can_join.ensures) in
    subst (λ part. RefusesBroughtAt c.args.journal.now.log part c.args.came.now c.args.own.now (Refused c.merge_refusal.result)) (sym c.in-Some.is) (
      not_missing c.args.own.now c.in-Some.prepared c.whole_in.result c.in-Err-Merge.field-0-0 c.whole_in.ensures.missing (c.in-Err-Merge.is ∙ ap (λ f. Err f) c.in-Err-Merge.field-0-is),
      c.merge_refusal.ensures c.args.own.now c.in-Some.prepared.clock fits,
    )
