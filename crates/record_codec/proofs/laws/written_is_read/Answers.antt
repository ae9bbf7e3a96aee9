use Rattle.record_codec.proofs.Frames.{written_begins}
use Rattle.record_codec.proofs.laws.written_is_read.Goals as goal

pub returns : goal.returns
returns c = written_begins
