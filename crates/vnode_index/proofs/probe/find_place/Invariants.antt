use Rattle.std.proofs.Common.{◌≡◌, ℕ, ◌<◌, false, length}
use Rattle.vnode_index.specs.Slots.{slot_at, slot_of, probed}
use Rattle.vnode_index.proofs.probe.find_place.Given as goal

abbrev pub invariant-loop-step : goal.invariant-loop-step
invariant-loop-step g l = (j i : ℕ) → j < l.step → slot_at l.slots (probed (length l.slots) l.fn.hash j) ≡ slot_of l.fn.hash i → goal.F-post g l.is i false
