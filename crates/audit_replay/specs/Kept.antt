-- What is kept of entries that have happened again.
use Rattle.std.specs.Prelude.{◌≡◌, ◌<◌, ◌⊎◌, ℕ, List, [], ◌∷◌, drop, if◌then◌else◌, length, slice_get, sum_by, Option, Some, None}
use Rattle.std.specs.Option.{option_or}
use Rattle.key_state.specs.declared.content.Key.{Key}
use Rattle.key_state.specs.Sizes.{state_bytes}
use Rattle.key_state.specs.State.{State}
use Rattle.journal.specs.Keys.{same_key}
use Rattle.audit_replay.specs.declared.kept.Recent.{Recent}
use Rattle.audit_replay.specs.declared.kept.Kept.{Kept}
use Rattle.audit_replay.specs.declared.kept.Kept.TheVariants as kept
use Rattle.audit_replay.specs.declared.kept.Found.{Found}
use Rattle.audit_replay.specs.declared.kept.Found.TheVariants as found

-- what is found at a place: the read that is kept there
abbrev pub IsFound : List Kept → ℕ → Found → Type 0
IsFound list place found.Nothing = (slice_get list place ≡ None) ⊎ (slice_get list place ≡ Some kept.Other) ⊎ ((key : Key) × (state : State) × (slice_get list place ≡ Some (kept.Was key state)))
IsFound list place found.GivenUp = slice_get list place ≡ Some kept.GivenUp
IsFound list place (found.Read key) = slice_get list place ≡ Some (kept.Read key.now)

-- the state that was at a key before an entry that changes it
abbrev pub was_before : Kept → Key → Option State
was_before (kept.Was own state) key = if same_key own key then Some state else None
was_before (kept.Read own) key = None
was_before kept.Other key = None
was_before kept.GivenUp key = None

-- the state that was at a key before the first of some entries that change it
abbrev pub first_was : List Kept → Key → Option State
first_was [] key = None
first_was (k ∷ ks) key = option_or (was_before k key) (first_was ks key)

-- the bytes of the contents that are kept of an entry: those of the state that it replaced
abbrev pub kept_bytes : Kept → ℕ
kept_bytes (kept.Was key state) = state_bytes state
kept_bytes (kept.Read key) = 0
kept_bytes kept.Other = 0
kept_bytes kept.GivenUp = 0

-- so many entries, of which so many bytes are kept, are more than is kept
abbrev pub IsMore : Recent → ℕ → ℕ → Type 0
IsMore recent entries bytes = (recent.always < entries) × ((recent.entries < entries) ⊎ (recent.bytes < bytes))

-- an end of what there is of the entries is more than is kept
abbrev pub IsOver : Recent → List Kept → Type 0
IsOver recent end = IsMore recent (length end) (sum_by kept_bytes end)

-- Of what there is of entries the longest end is left that isn't more than is kept: what stands at a place is given up exactly where the end from there on is more.
pub record IsLeft (recent : Recent) (all new : List Kept) : Type 0 where
  pub size : length new ≡ length all
  pub gone : (place : ℕ) → IsOver recent (drop place all) → slice_get new place ≡ Some kept.GivenUp
  pub stays : (place : ℕ) → (IsOver recent (drop place all) → ⊥) → slice_get new place ≡ slice_get all place
