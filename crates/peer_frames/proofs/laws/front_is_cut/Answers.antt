use Rattle.peer_frames.proofs.Framing.{front_is_cut}
use Rattle.peer_frames.proofs.laws.front_is_cut.Goals as goal

pub returns : goal.returns
returns c = front_is_cut
