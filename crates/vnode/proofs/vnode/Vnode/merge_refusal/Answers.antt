use Rattle.std.proofs.Common.{subst, sym}
use Rattle.vnode.specs.Refusals.{RefusesMerge}
use Rattle.vnode.specs.States.{state_at}
use Rattle.vnode.proofs.Refused.{refuses_merge, one_merge}
use Rattle.vnode.proofs.vnode.Vnode.merge_refusal.Goals as goal

pub returns-clause-why : goal.returns-clause-why
returns-clause-why c =
    subst (λ log. RefusesMerge log c.args.key.now c.args.state.now c.merge_refusal_at.result) c.self.view_is
    (refuses_merge c.self.inside.journal.log c.args.key.now c.args.state.now (state_at c.self.inside.states c.args.key.now) c.merge_refusal_at.result (c.self.invariant.leaves c.args.key.now) c.merge_refusal_at.ensures)

pub returns-clause-exact : goal.returns-clause-exact
returns-clause-exact c = λ fault refuses.
    one_merge c.self.inside.journal.log c.args.key.now c.args.state.now c.merge_refusal_at.result fault
    (refuses_merge c.self.inside.journal.log c.args.key.now c.args.state.now (state_at c.self.inside.states c.args.key.now) c.merge_refusal_at.result (c.self.invariant.leaves c.args.key.now) c.merge_refusal_at.ensures)
    (subst (λ log. RefusesMerge log c.args.key.now c.args.state.now fault) (sym c.self.view_is) refuses)
