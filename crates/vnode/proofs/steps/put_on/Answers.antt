use Rattle.std.proofs.Common.{ap, subst, ◌∙◌, Err}
use Rattle.vnode.specs.Refusals.{TakesPut, RefusesPutAt}
use Rattle.vnode.proofs.FaultLemmas.{journal_refused}
use Rattle.vnode.proofs.steps.put_on.Goals as goal

pub returns-in_err-reserve-clause-why : goal.returns-in_err-reserve-clause-why
returns-in_err-reserve-clause-why c =
    let takes : TakesPut c.vnode.result c.args.write.now.seen c.args.state.now = record { context = c.in_ok-dot.ensures.seen; sibling = c.in_ok-dot.ensures.limits.0; dot = c.in_ok-dot.ensures.limits.1 } in
    let own : TakesPut c.args.journal.now.log.vnode c.args.write.now.seen c.args.state.now = subst (λ v. TakesPut v c.args.write.now.seen c.args.state.now) c.vnode.ensures takes in
    journal_refused (RefusesPutAt c.args.journal.now.log c.args.write.now.seen c.args.state.now) c.from_residual-in_err-reserve.result c.in_err-reserve.field-0.0 c.from_residual-in_err-reserve.ensures.1
    (λ full. (own, c.reserve.ensures.full.0 (c.in_err-reserve.was ∙ ap (λ f. Err f) full)))
    (λ memory. (own, c.reserve.ensures.memory (c.in_err-reserve.was ∙ ap (λ f. Err f) memory)))
