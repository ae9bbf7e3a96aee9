-- Rows that wait for slots: a slot's row is the one at its place, where that one waits for this slot.
use Rattle.std.specs.Prelude.{◌≡◌, ◌≢◌, ℕ, suc, ◌<◌, ◌≤◌, ◌==◌, if◌then◌else◌, List, [], ◌∷◌, Option, Some, None, slice_get}
use Rattle.bpf_semantics.specs.declared.profile.Profile.{Profile}
use Rattle.bpf_verifier.specs.Registers.{Row}
use Rattle.bpf_verifier.specs.Rows.{StartsZero, AreRowKinds}
use Rattle.bpf_verifier.specs.declared.waiting.Held.{Held}
use Rattle.bpf_verifier.specs.declared.waiting.Waiting.{Waiting}

abbrev pub owner_of : {N : ℕ} → Option (Held N) → Option ℕ
owner_of None = None
owner_of (Some held) = held.owner

-- the slot for which the row at a place waits
abbrev pub owner_at : {N : ℕ} → List (Held N) → ℕ → Option ℕ
owner_at rows place = owner_of (slice_get rows place)

-- the kinds of a row, where its owner is that slot
abbrev pub owned_by : ℕ → Option ℕ → Row → Option Row
owned_by slot None kinds = None
owned_by slot (Some k) kinds = if k == slot then Some kinds else None

abbrev pub held_for : {N : ℕ} → ℕ → Option (Held N) → Option Row
held_for slot None = None
held_for slot (Some held) = owned_by slot held.owner held.kinds

-- what waits for each of some slots, from that one on, by their places
abbrev pub waiting_from : {N : ℕ} → ℕ → List ℕ → List (Held N) → List (Option Row)
waiting_from slot [] rows = []
waiting_from slot (place ∷ places) rows = held_for slot (slice_get rows place) ∷ waiting_from (suc slot) places rows

-- what waits for each slot
abbrev pub waiting : {N : ℕ} → Waiting N → List (Option Row)
waiting w = waiting_from 0 w.places.items w.held.items

-- ---- the pool of rows

-- the row at each place before one waits for some slot
abbrev pub AreOwned : {N : ℕ} → List (Held N) → ℕ → Type 0
AreOwned rows n = (place : ℕ) → place < n → owner_at rows place ≢ None

-- each row that is held, for a slot or for none, has the zero in each cell before a place
abbrev pub StartZero : {N : ℕ} → Profile → ℕ → List (Held N) → Type 0
StartZero {N} profile low rows = (place : ℕ) (held : Held N) → slice_get rows place ≡ Some held → StartsZero profile low held.kinds

-- The rows that wait: known, with the zero in each cell before a place, as in those that wait no more; and no free place before that
-- from which one is sought.
pub record IsPool {N : ℕ} (profile : Profile) (w : Waiting N) : Type 0 where
  pub kinds : AreRowKinds profile w.low (waiting w)
  pub owned : AreOwned w.held.items w.free
  pub zeros : StartZero profile w.low w.held.items
  pub registers : 11 ≤ w.low
  pub short : w.low ≤ N
