use Rattle.std.proofs.Common.{arith}
use Rattle.audit_cluster.proofs.Happening.{calls, order}
use Rattle.audit_cluster.proofs.laws.calls_are_of_the_run.Goals as goal

pub returns-clause-calls : goal.returns-clause-calls
returns-clause-calls c = λ told logs gathered begin fronts run ts rise within behind.
    calls run (c.steps_are_in_order.ensures.steps begin fronts logs run) (c.steps_are_known.ensures.state begin fronts logs run) (c.steps_are_known.ensures.dot begin fronts logs run) (c.steps_are_in_order.ensures.order begin fronts logs run)
    ts rise (λ t has. c.receipts_stand.ensures told logs gathered t (within t has)) behind

pub returns-clause-whole : goal.returns-clause-whole
returns-clause-whole c = λ told logs gathered run ts rise within.
    calls run (c.steps_are_in_order.ensures.steps _ _ logs run) (c.steps_are_known.ensures.state _ _ logs run) (c.steps_are_known.ensures.dot _ _ logs run) (c.steps_are_in_order.ensures.order _ _ logs run)
    ts rise (λ t has. c.receipts_stand.ensures told logs gathered t (within t has)) (λ t has e made index inside is. omega arith)

pub returns-clause-order : goal.returns-clause-order
returns-clause-order c = λ begin fronts logs run.
    order run (c.steps_are_in_order.ensures.steps begin fronts logs run) (c.steps_are_known.ensures.state begin fronts logs run) (c.steps_are_known.ensures.dot begin fronts logs run) (c.steps_are_in_order.ensures.order begin fronts logs run)
