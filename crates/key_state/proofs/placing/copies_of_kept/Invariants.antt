use Rattle.std.proofs.Common.{◌≡◌, ◌<◌, take, length}
use Rattle.key_state.specs.State.{kept}
use Rattle.key_state.proofs.placing.copies_of_kept.Given as goal

-- copies of those so far that aren't covered, and room for the others and one more
abbrev pub invariant-loop-sibling : goal.invariant-loop-sibling
invariant-loop-sibling l = (l.copies.items ≡ kept l.seen (take l.sibling-index l.siblings)) × (length (kept l.seen l.siblings) < l.copies.capacity)
