use Rattle.std.proofs.Common.{ap, subst, sym, ◌∙◌, unwrap_or}
use Rattle.key_state.specs.State.{State, empty}
use Rattle.vnode.specs.Refusals.{RefusesMergeAt}
use Rattle.vnode.proofs.Mapped.{state_at-absent}
use Rattle.vnode.proofs.steps.merge_refusal_at.Goals as goal

pub returns-in-Some : goal.returns-in-Some
returns-in-Some c =
    subst (λ (state : State). RefusesMergeAt c.args.journal.now.log c.args.other.now.clock state c.merge_refusal.result) (c.held.ensures ∙ ap (λ o. unwrap_or o empty) c.in-Some.ensures.value)
    (c.merge_refusal.ensures c.held.result.now c.args.other.now.clock c.can_merge.ensures)

pub returns-in-None : goal.returns-in-None
returns-in-None c =
    subst (λ (state : State). RefusesMergeAt c.args.journal.now.log c.args.other.now.clock state c.merge_refusal-in-None.result) (c.nothing.ensures ∙ sym (state_at-absent c.args.states.now c.args.key.now (sym c.in-None.ensures.value)))
    (c.merge_refusal-in-None.ensures c.nothing.result c.args.other.now.clock c.can_merge-in-None-2.ensures)
