use Rattle.record_codec.proofs.Frames.{front_is_cut}
use Rattle.record_codec.proofs.laws.front_is_cut.Goals as goal

pub returns : goal.returns
returns c = front_is_cut
