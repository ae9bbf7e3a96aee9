use Rattle.std.proofs.Common.{◌≡◌, filter, is_some, length, take}
use Rattle.key_state.specs.declared.part.PartSibling.{PartSibling}
use Rattle.key_state.proofs.part.Part.contents.Given as goal

-- so many of those so far have their content
abbrev pub invariant-loop-sibling : goal.invariant-loop-sibling
invariant-loop-sibling l = l.count ≡ length (filter (λ (s : PartSibling). is_some s.content) (take l.sibling-index l.sibling-items))
