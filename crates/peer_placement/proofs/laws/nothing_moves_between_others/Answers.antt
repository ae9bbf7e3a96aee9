use Rattle.peer_placement.proofs.Rows.{none_between}
use Rattle.peer_placement.proofs.laws.nothing_moves_between_others.Goals as goal

pub returns : goal.returns
returns c = none_between
