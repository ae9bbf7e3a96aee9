use Rattle.audit_replay.proofs.Ordered.{order, steps}
use Rattle.audit_replay.proofs.laws.steps_are_in_order.Goals as goal

pub returns-clause-steps : goal.returns-clause-steps
returns-clause-steps c = steps

pub returns-clause-order : goal.returns-clause-order
returns-clause-order c = order
