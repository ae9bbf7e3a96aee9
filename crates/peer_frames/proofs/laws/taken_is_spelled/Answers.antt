use Rattle.peer_frames.proofs.Framing.{taken_is_spelled}
use Rattle.peer_frames.proofs.laws.taken_is_spelled.Goals as goal

pub returns : goal.returns
returns c = taken_is_spelled
