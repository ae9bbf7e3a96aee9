use Rattle.std.proofs.Common.{take}
use Rattle.record_codec.specs.Records.{AreContents}
use Rattle.record_codec.proofs.lists.are_contents.Given as goal

abbrev pub invariant-loop-sibling : goal.invariant-loop-sibling
invariant-loop-sibling l = AreContents (take l.sibling-index l.siblings)
