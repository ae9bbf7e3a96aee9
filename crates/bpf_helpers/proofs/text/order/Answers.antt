use Rattle.std.proofs.Common.{sym, ◌∙◌}
use Rattle.bpf_helpers.proofs.Orders.{order-equal}
use Rattle.bpf_helpers.proofs.text.order.Goals as goal

pub returns-in-Less-clause-equal : goal.returns-in-Less-clause-equal
returns-in-Less-clause-equal c = order-equal c.args.first.now c.args.second.now _ (sym c.in-Less.is ∙ c.cmp.ensures)

pub returns-in-Equal-clause-equal : goal.returns-in-Equal-clause-equal
returns-in-Equal-clause-equal c = order-equal c.args.first.now c.args.second.now _ (sym c.in-Equal.is ∙ c.cmp.ensures)

pub returns-in-Greater-clause-equal : goal.returns-in-Greater-clause-equal
returns-in-Greater-clause-equal c = order-equal c.args.first.now c.args.second.now _ (sym c.in-Greater.is ∙ c.cmp.ensures)
