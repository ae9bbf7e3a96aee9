use Rattle.std.proofs.Common.{◌≤◌, length}
use Rattle.kept_file.proofs.halves.middle_of.Given as goal

-- so many are left
abbrev pub invariant-loop-left : goal.invariant-loop-left
invariant-loop-left l = length l.left ≤ length l.bytes

abbrev pub decreases-loop-left : goal.decreases-loop-left
decreases-loop-left l = length l.left
