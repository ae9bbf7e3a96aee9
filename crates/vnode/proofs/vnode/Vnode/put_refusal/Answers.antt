use Rattle.std.proofs.Common.{subst, sym}
use Rattle.vnode.specs.Refusals.{RefusesPut}
use Rattle.vnode.specs.States.{state_at}
use Rattle.vnode.proofs.Refused.{refuses_put, one_put}
use Rattle.vnode.proofs.vnode.Vnode.put_refusal.Goals as goal

pub returns-clause-why : goal.returns-clause-why
returns-clause-why c =
    subst (λ log. RefusesPut log c.args.key.now c.args.seen.now c.put_refusal_at.result) c.self.view_is
    (refuses_put c.self.inside.journal.log c.args.key.now c.args.seen.now (state_at c.self.inside.states c.args.key.now) c.put_refusal_at.result (c.self.invariant.leaves c.args.key.now) c.put_refusal_at.ensures)

pub returns-clause-exact : goal.returns-clause-exact
returns-clause-exact c = λ fault refuses.
    one_put c.self.inside.journal.log c.args.key.now c.args.seen.now c.put_refusal_at.result fault
    (refuses_put c.self.inside.journal.log c.args.key.now c.args.seen.now (state_at c.self.inside.states c.args.key.now) c.put_refusal_at.result (c.self.invariant.leaves c.args.key.now) c.put_refusal_at.ensures)
    (subst (λ log. RefusesPut log c.args.key.now c.args.seen.now fault) (sym c.self.view_is) refuses)
