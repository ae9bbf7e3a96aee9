use Rattle.std.proofs.Common.{◌≡◌, take, map}
use Rattle.key_state.specs.declared.content.Sibling.{Sibling}
use Rattle.key_state.proofs.state.KeyState.summary.Given as goal

-- the dots of those so far
abbrev pub invariant-loop-sibling : goal.invariant-loop-sibling
invariant-loop-sibling l = l.dots.items ≡ map (λ (s : Sibling). s.dot) (take l.sibling-index l.sibling-items)
