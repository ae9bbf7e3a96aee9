use Rattle.std.proofs.Common.{◌≡◌, ◌+◌, ◌-◌, ◌≤◌, length, drop}
use Rattle.key_state.specs.Merging.{drops_some}
use Rattle.key_state.proofs.merging.drops_some.Given as goal

abbrev pub invariant-loop-i : goal.invariant-loop-i
invariant-loop-i l = (l.i ≤ length l.own) × (l.j ≤ length l.others) × (drops_some (drop l.j l.others) l.other_clock (drop l.i l.own) ≡ drops_some l.others l.other_clock l.own)

abbrev pub decreases-loop-i : goal.decreases-loop-i
decreases-loop-i l = (length l.own - l.i) + (length l.others - l.j)
