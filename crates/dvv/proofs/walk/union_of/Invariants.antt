use Rattle.std.proofs.Common.{◌≡◌, ◌≤◌, ℕ, ◌+◌, length}
use Rattle.dvv.specs.Clock.{vnodes_together}
use Rattle.dvv.proofs.Walks.{IsLeft, IsJoined}
use Rattle.dvv.proofs.walk.union_of.Given as goal

-- the union of the vnodes that were walked, with room for those left
abbrev pub invariant-loop-counts : goal.invariant-loop-counts
invariant-loop-counts l = record {
  walked : (bound : ℕ) × IsLeft bound l.own l.other l.own_left l.other_left × IsJoined bound l.own l.other l.union.items;
  count : length l.union.items + vnodes_together l.own_left l.other_left ≡ l.vnodes;
  room : l.vnodes ≤ l.union.capacity;
}

abbrev pub decreases-loop-counts : goal.decreases-loop-counts
decreases-loop-counts l = length l.own_left + length l.other_left
