use Rattle.std.proofs.Common.{◌≡◌, take}
use Rattle.key_state.proofs.part.Part.copy.Given as goal

-- copies of those so far
abbrev pub invariant-loop-sibling : goal.invariant-loop-sibling
invariant-loop-sibling l = l.siblings.items ≡ take l.sibling-index l.sibling-items
