-- Marks of the numbers that can be no boundary: a byte for each number from 0 on, 0 where it has no mark.
use Rattle.std.specs.Prelude.{◌≡◌, ℕ, ◌<◌, ◌==◌, Bool, not, ◌||◌, List, length, slice_index}

-- the number has a mark
abbrev pub is_marked : List ℕ → ℕ → Bool
is_marked marks n = not (slice_index marks n == 0)

-- the numbers that pass the test got marks, and no others
pub record Marked (old new : List ℕ) (test : ℕ → Bool) : Type 0 where
  pub kept : length new ≡ length old
  pub marks : (n : ℕ) → n < length old → is_marked new n ≡ (is_marked old n || test n)
