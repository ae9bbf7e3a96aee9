use Rattle.peer_placement.proofs.Rows.{others_stay}
use Rattle.peer_placement.proofs.laws.other_rows_stay.Goals as goal

pub returns : goal.returns
returns c = others_stay
