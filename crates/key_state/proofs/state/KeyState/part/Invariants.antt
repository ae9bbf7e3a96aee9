use Rattle.std.proofs.Common.{◌≡◌, take, map}
use Rattle.key_state.specs.Parts.{part_sibling}
use Rattle.key_state.proofs.state.KeyState.part.Given as goal

-- what is sent of those so far
abbrev pub invariant-loop-sibling : goal.invariant-loop-sibling
invariant-loop-sibling l = l.siblings.items ≡ map (part_sibling l.summary) (take l.sibling-index l.sibling-items)
