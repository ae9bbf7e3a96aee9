use Rattle.std.proofs.Common.{◌≡◌, ◌+◌, ◌<◌, ℕ, length, take}
use Rattle.std.specs.Prelude.{sum_by, not}
use Rattle.http_response.specs.Marks.{is_marked}
use Rattle.http_response.specs.Parts.{bytes_of, is_free}
use Rattle.http_response.proofs.boundary.boundary_of.Given as goal

-- the numbers that stand in the siblings so far have marks
abbrev pub invariant-loop-sibling : goal.invariant-loop-sibling
invariant-loop-sibling l = record {
  size : length l.marks.items ≡ sum_by (λ s. length (bytes_of s.content)) l.siblings + 1;
  marks : (n : ℕ) → n < length l.marks.items → not (is_marked l.marks.items n) ≡ is_free (take l.sibling-index l.siblings) n;
}
