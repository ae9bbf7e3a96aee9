use Rattle.std.proofs.Common.{◌≡◌, ◌<◌, ◌≤◌, ℕ, length}
use Rattle.std.specs.Prelude.{◌||◌}
use Rattle.http_response.specs.Marks.{is_marked}
use Rattle.http_response.specs.Parts.{occurs_in, delimiter}
use Rattle.http_response.proofs.boundary.mark_delimiters.Given as goal

-- what has a mark or stands in the rest is what had a mark or stands in the bytes
abbrev pub invariant-loop-at : goal.invariant-loop-at
invariant-loop-at l = record {
  within : length l.rest ≤ length l.bytes;
  kept : length l.marks ≡ length l.initial.marks;
  marks : (n : ℕ) → n < length l.marks
      → (is_marked l.marks n || occurs_in (delimiter n) l.rest) ≡ (is_marked l.initial.marks n || occurs_in (delimiter n) l.bytes);
}

abbrev pub decreases-loop-at : goal.decreases-loop-at
decreases-loop-at l = length l.rest
