use Rattle.std.proofs.Common.{length}
use Rattle.record_codec.proofs.Spelled.{IsReadSoFar}
use Rattle.log_tail.proofs.front.records_in_front.Given as goal

-- the bytes before those that are left are records
abbrev pub invariant-loop-records : goal.invariant-loop-records
invariant-loop-records l = IsReadSoFar l.bytes l.left l.records.items

abbrev pub decreases-loop-records : goal.decreases-loop-records
decreases-loop-records l = length l.left
