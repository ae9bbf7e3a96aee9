use Rattle.record_codec.proofs.Frames.{one_spelling}
use Rattle.record_codec.proofs.laws.no_spelling_begins_another.Goals as goal

pub returns : goal.returns
returns c = one_spelling
