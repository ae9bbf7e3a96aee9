-- What calls on a device do to its file, and what a crash may leave between two forces: the model of SQLite ("Atomic Commit In SQLite", section 2), for a file that only grows.
use Rattle.std.specs.Prelude.{◌≡◌, ◌⊎◌, ℕ, ◌-◌, ◌^◌, ◌≤◌, ◌<◌, min, List, ◌++◌, length, take, Result, IsErr}
use Rattle.log_file.specs.declared.device.DeviceFault.{DeviceFault}

-- what stood there, and something behind it
abbrev pub Grown : List ℕ → List ℕ → Type 0
Grown old new = (more : List ℕ) × (new ≡ old ++ more)

-- a front of what stood there, which has all of the first n bytes
pub record Cut (n : ℕ) (old new : List ℕ) : Type 0 where
  pub front : new ≡ take (length new) old
  pub enough : min n (length old) ≤ length new

-- each outcome of a crash is one from before, after a step
abbrev pub Follows : (List ℕ → List ℕ → Type 0) → (List ℕ → Type 0) → (List ℕ → Type 0) → Type 0
Follows step old new = (c : List ℕ) → new c → (d : List ℕ) × old d × step d c

-- a crash leaves this and nothing else
abbrev pub Only : List ℕ → (List ℕ → Type 0) → Type 0
Only file outcomes = (c : List ℕ) → outcomes c → c ≡ file

-- time goes on: a crash since t may have left what it might have left before, or what one may leave now
pub record Elapses (before now : ℕ) (past since : ℕ → List ℕ → Type 0) (may_leave : List ℕ → Type 0) : Type 0 where
  pub later : before ≤ now
  pub nothing_else : (t : ℕ) (c : List ℕ) → t ≤ before → since t c → past t c ⊎ may_leave c

-- a crash at any moment since old leaves a file of which P holds
pub record LeavesOnly {D : Type 0} (moment : D → ℕ) (left_since : D → ℕ → List ℕ → Type 0) (old new : D) (P : List ℕ → Type 0) : Type 0 where
  pub later : moment old ≤ moment new
  pub each : (c : List ℕ) → left_since new (moment old) c → P c
  -- for a run that began earlier
  pub before : (t : ℕ) (c : List ℕ) → t ≤ moment old → left_since new t c → left_since old t c ⊎ P c

-- a file begins with these bytes
abbrev pub BeginsWith : List ℕ → List ℕ → Type 0
BeginsWith front file = take (length front) file ≡ front

-- a count has risen, or is at its greatest
abbrev pub HasRisen : ℕ → ℕ → Type 0
HasRisen old new = (old < new) ⊎ (new ≡ 2 ^ 64 - 1)

-- faults are counted: where a call fails the count has risen
pub record HasCause {T : Type 0} (before now : ℕ) (result : Result T DeviceFault) : Type 0 where
  pub later : before ≤ now
  pub failed : IsErr result → HasRisen before now
