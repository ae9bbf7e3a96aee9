use Rattle.std.proofs.Common.{ℕ, ◌+◌, length}
use Rattle.dvv.proofs.Walks.{IsLeft, AreBelow}
use Rattle.dvv.proofs.walk.is_within.Given as goal

-- no vnode that was walked counts more here
abbrev pub invariant-loop-counts : goal.invariant-loop-counts
invariant-loop-counts l = (bound : ℕ) × IsLeft bound l.small l.large l.small_left l.large_left × AreBelow bound l.small l.large

abbrev pub decreases-loop-counts : goal.decreases-loop-counts
decreases-loop-counts l = length l.small_left + length l.large_left
