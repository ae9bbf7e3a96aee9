use Rattle.std.proofs.Common.{◌≡◌, ◌++◌, ◌∷◌, [], take}
use Rattle.std.specs.List.{flat_map}
use Rattle.http_response.specs.Parts.{tag_of}
use Rattle.http_response.proofs.answer.push_tags.Given as goal

-- the tags so far
abbrev pub invariant-loop-sibling : goal.invariant-loop-sibling
invariant-loop-sibling l =
    l.text.items ≡ l.initial.text.items ++ flat_map (λ s. tag_of s.dot ++ 10 ∷ []) (take l.sibling-index l.siblings)
