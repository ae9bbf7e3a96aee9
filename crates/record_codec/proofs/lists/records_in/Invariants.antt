use Rattle.std.proofs.Common.{length}
use Rattle.record_codec.proofs.Spelled.{IsReadSoFar}
use Rattle.record_codec.proofs.lists.records_in.Given as goal

-- the bytes before those that are left are records
abbrev pub invariant-loop-left : goal.invariant-loop-left
invariant-loop-left l = IsReadSoFar l.bytes l.left l.records.items

abbrev pub decreases-loop-left : goal.decreases-loop-left
decreases-loop-left l = length l.left
