use Rattle.std.proofs.Common.{◌≡◌, ◌+◌, ℕ, length, take, get_or}
use Rattle.std.specs.Prelude.{sum_by}
use Rattle.http_response.specs.Parts.{bytes_of}
use Rattle.http_response.proofs.boundary.push_blanks.Given as goal

-- no byte has a mark
abbrev pub invariant-loop-sibling : goal.invariant-loop-sibling
invariant-loop-sibling l = record {
  size : length l.marks.items ≡ sum_by (λ s. length (bytes_of s.content)) (take l.sibling-index l.siblings) + 1;
  blank : (n : ℕ) → get_or l.marks.items n 0 ≡ 0;
}
