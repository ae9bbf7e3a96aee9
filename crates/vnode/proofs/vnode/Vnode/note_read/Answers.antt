use Rattle.std.proofs.Common.{arith, subst}
use Rattle.std.proofs.lemmas.Grind.{common_steps}
use Rattle.journal.specs.Limits.{TakesEntry}
use Rattle.journal.specs.Replay.{IsReplay}
use Rattle.vnode.proofs.Stepped.{read_kept}
use Rattle.vnode.specs.States.{state_at}
use Rattle.vnode.proofs.vnode.Vnode.note_read.Goals as goal

pub invariant_of-self-2 : goal.invariant_of-self-2
invariant_of-self-2 c = read_kept c.self.inside.states c.self.inside.journal.log c.append.new.self.log c.args.stamp c.args.key (subst (λ log. TakesEntry log.entries) c.reserve.ensures.same c.in_ok-reserve.ensures.below) c.self.invariant (grind (arith, common_steps))

pub returns-clause-legal : goal.returns-clause-legal
returns-clause-legal c = (read_kept c.self.inside.states c.self.inside.journal.log c.append.new.self.log c.args.stamp c.args.key (subst (λ log. TakesEntry log.entries) c.reserve.ensures.same c.in_ok-reserve.ensures.below) c.self.invariant (grind (arith, common_steps))).legal

pub returns-clause-state : goal.returns-clause-state
returns-clause-state c = (state_at c.self.inside.states c.args.key, subst (λ log. IsReplay log.entries c.args.key (state_at c.self.inside.states c.args.key)) c.self.view_is (c.self.invariant.leaves c.args.key))

pub returns-in_err-reserve-clause-state : goal.returns-in_err-reserve-clause-state
returns-in_err-reserve-clause-state c = (state_at c.self.inside.states c.args.key, subst (λ log. IsReplay log.entries c.args.key (state_at c.self.inside.states c.args.key)) c.self.view_is (c.self.invariant.leaves c.args.key))
