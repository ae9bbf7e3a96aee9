use Rattle.std.proofs.Common.{◌≡◌, ◌+◌, length, drop}
use Rattle.std.specs.List.{flat_map}
use Rattle.record_codec.specs.Records.{sibling}
use Rattle.record_codec.proofs.write.room_after.Given as goal

abbrev pub invariant-loop-sibling : goal.invariant-loop-sibling
invariant-loop-sibling l = l.left + length (flat_map sibling l.siblings) ≡ l.room + length (flat_map sibling (drop l.sibling-index l.siblings))
