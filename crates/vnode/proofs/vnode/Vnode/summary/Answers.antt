use Rattle.std.proofs.Common.{arith, subst}
use Rattle.std.proofs.lemmas.Grind.{common_steps}
use Rattle.journal.specs.Limits.{TakesEntry}
use Rattle.vnode.proofs.Stepped.{read_kept}
use Rattle.vnode.proofs.vnode.Vnode.summary.Goals as goal

pub invariant_of-self-2 : goal.invariant_of-self-2
invariant_of-self-2 c = read_kept c.self.inside.states c.self.inside.journal.log c.append-place.new.self.log c.args.stamp c.args.key.now (subst (λ log. TakesEntry log.entries) c.reserve.ensures.same c.in_ok-reserve.ensures.below) c.self.invariant (grind (arith, common_steps))

pub returns-clause-legal : goal.returns-clause-legal
returns-clause-legal c = (read_kept c.self.inside.states c.self.inside.journal.log c.append-place.new.self.log c.args.stamp c.args.key.now (subst (λ log. TakesEntry log.entries) c.reserve.ensures.same c.in_ok-reserve.ensures.below) c.self.invariant (grind (arith, common_steps))).legal
