use Rattle.peer_placement.proofs.Rows.{is_row}
use Rattle.peer_placement.proofs.laws.rows_are_first.Goals as goal

pub returns : goal.returns
returns c = is_row
