use Rattle.record_codec.proofs.Spelled.{goes_on_sliced}
use Rattle.record_codec.proofs.lists.records_in.Goals as goal

pub loop-left-preserved : goal.loop-left-preserved
loop-left-preserved c = goes_on_sliced c.args.bytes.now c.loop-left.left.now c.loop-left.records.items _ c.in-Ok.one c.in-Ok.len c.loop-left.invariant c.in-Ok.ensures.found c.in_ok-keep-in-Ok.ensures.kept
