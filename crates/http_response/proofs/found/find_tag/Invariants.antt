use Rattle.std.proofs.Common.{◌≡◌, drop}
use Rattle.std.specs.Prelude.{bytes_eq}
use Rattle.std.specs.List.{find}
use Rattle.http_response.specs.Parts.{tag_of}
use Rattle.http_response.proofs.found.find_tag.Given as goal

-- what is left has the same first of this tag
abbrev pub invariant-loop-sibling : goal.invariant-loop-sibling
invariant-loop-sibling l =
    find (λ s. bytes_eq (tag_of s.dot) l.tag) (drop l.sibling-index l.siblings) ≡ find (λ s. bytes_eq (tag_of s.dot) l.tag) l.siblings
