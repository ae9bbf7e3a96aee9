-- What a source and a sink of bytes do, and how they count their failed calls.
use Rattle.std.specs.Prelude.{◌≡◌, ℕ, ◌+◌, ◌-◌, ◌^◌, ◌<◌, ◌≤◌, ◌⊎◌, min, List, ◌++◌, Option}
use Rattle.std.specs.Io.KnownBytes.{Appends, Consumes}

-- the count of failed calls after one more: it stays at the greatest number
abbrev pub Rises : ℕ → ℕ → Type 0
Rises old new = new ≡ min (old + 1) (2 ^ 64 - 1)

-- the count has risen, or stood at the greatest number, where it always counts as risen
abbrev pub HasRisen : ℕ → ℕ → Type 0
HasRisen old new = (old < new) ⊎ (2 ^ 64 - 1 ≤ old)

-- of the bytes that waited to be written a front was, and these are left
pub record Sends (old new : Option (List ℕ)) (waited left : List ℕ) : Type 0 where
  pub sent : List ℕ
  pub parts : waited ≡ sent ++ left
  pub wrote : Appends old new sent

-- bytes of those that were to come wait now, behind those that waited
abbrev pub Reads : List ℕ → List ℕ → Option (List ℕ) → Option (List ℕ) → Type 0
Reads waits waits' comes comes' = (more : List ℕ) × (waits' ≡ waits ++ more) × Consumes comes comes' more
