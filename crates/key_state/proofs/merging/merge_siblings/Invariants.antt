use Rattle.std.proofs.Common.{ℕ, ◌+◌, ◌-◌, ◌≤◌, length, drop}
use Rattle.key_state.proofs.Merges.{IsMerging}
use Rattle.key_state.proofs.merging.merge_siblings.Given as goal

-- the merge of those before these places, and what is left on either side
pub record Gone (i j own others : ℕ) (P : Type 0) : Type 0 where
  pub own_within : i ≤ own
  pub others_within : j ≤ others
  pub merging : P

abbrev pub invariant-loop-i : goal.invariant-loop-i
invariant-loop-i l = Gone l.i l.j (length l.own) (length l.others) (IsMerging l.own l.own_clock l.others l.other_clock l.merged.items (drop l.i l.own) (drop l.j l.others))

abbrev pub decreases-loop-i : goal.decreases-loop-i
decreases-loop-i l = (length l.own - l.i) + (length l.others - l.j)
