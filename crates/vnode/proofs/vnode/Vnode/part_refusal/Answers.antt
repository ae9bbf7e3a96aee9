use Rattle.std.proofs.Common.{subst, sym}
use Rattle.vnode.specs.Parts.{RefusesPart}
use Rattle.vnode.specs.States.{state_at}
use Rattle.vnode.proofs.Lacking.{refuses_part, one_part}
use Rattle.vnode.proofs.vnode.Vnode.part_refusal.Goals as goal

pub returns-clause-why : goal.returns-clause-why
returns-clause-why c =
    subst (λ log. RefusesPart log c.args.key.now c.args.part.now c.part_refusal_at.result) c.self.view_is
    (refuses_part c.self.inside.journal.log c.args.key.now c.args.part.now (state_at c.self.inside.states c.args.key.now) c.part_refusal_at.result (c.self.invariant.leaves c.args.key.now) c.part_refusal_at.ensures)

pub returns-clause-exact : goal.returns-clause-exact
returns-clause-exact c = λ fault refuses.
    one_part c.self.inside.journal.log c.args.key.now c.args.part.now c.part_refusal_at.result fault
    (refuses_part c.self.inside.journal.log c.args.key.now c.args.part.now (state_at c.self.inside.states c.args.key.now) c.part_refusal_at.result (c.self.invariant.leaves c.args.key.now) c.part_refusal_at.ensures)
    (subst (λ log. RefusesPart log c.args.key.now c.args.part.now fault) (sym c.self.view_is) refuses)
