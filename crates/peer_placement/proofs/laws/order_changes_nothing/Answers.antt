use Rattle.peer_placement.proofs.Rows.{order_is_free}
use Rattle.peer_placement.proofs.laws.order_changes_nothing.Goals as goal

pub returns : goal.returns
returns c = order_is_free
