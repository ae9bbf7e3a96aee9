use Rattle.std.proofs.Common.{ap, ◌∙◌, Err}
use Rattle.vnode.specs.Refusals.{TakesMerge, RefusesMergeAt}
use Rattle.vnode.proofs.FaultLemmas.{journal_refused}
use Rattle.vnode.proofs.steps.merge_whole.Goals as goal

pub returns-in_err-reserve-clause-why : goal.returns-in_err-reserve-clause-why
returns-in_err-reserve-clause-why c =
    let takes : TakesMerge c.args.other.now.clock c.args.state.now = record { clock = c.can_merge.ensures.0 c.if-not-can_merge.false } in
    journal_refused (RefusesMergeAt c.args.journal.now.log c.args.other.now.clock c.args.state.now) c.from_residual.result c.in_err-reserve.field-0.0 c.from_residual.ensures.1
    (λ full. (takes, c.reserve.ensures.full.0 (c.in_err-reserve.was ∙ ap (λ f. Err f) full)))
    (λ memory. (takes, c.reserve.ensures.memory (c.in_err-reserve.was ∙ ap (λ f. Err f) memory)))
