-- Records of files at the vnodes of a placement, which may be another one than that by which they were written (this store's profile).
use Rattle.std.specs.Prelude.{◌≡◌, ◌⊎◌, ℕ, ◌<◌, ◌==◌, ◌++◌, ◌∷◌, [], Bool, true, List, Contains}
use Rattle.std.specs.List.{list_any}
use Rattle.key_state.specs.declared.content.Key.{Key}
use Rattle.key_state.specs.Limits.{IsKey}
use Rattle.record_codec.specs.declared.record.Record.{Record}
use Rattle.ring.specs.Places.{PlacementView, place_in, preferred}
use Rattle.kept_file.specs.declared.file.KeptFile.{KeptFile}
use Rattle.kept_file.specs.Files.{records_at}

-- whether a vnode is of a key's preference list
abbrev pub stands : PlacementView → Key → ℕ → Bool
stands placement key vnode = list_any (λ i. i == vnode) (preferred placement (place_in placement key.bucket key.key))

-- some records have this one's key and state, wherever they were read
abbrev pub IsAmong : List Record → Record → Type 0
IsAmong records r = (same : Record) × Contains records same × (same.key ≡ r.key) × (same.state ≡ r.state)

module _ (placement : PlacementView) (vnode : ℕ) where
  -- each record whose key stands at the vnode is among others
  abbrev pub HasThose : List Record → List Record → Type 0
  HasThose records placed = (r : Record) → Contains records r → IsKey r.key → stands placement r.key vnode ≡ true → IsAmong placed r

  -- so is each of files
  abbrev pub HasAll : List KeptFile → List Record → Type 0
  HasAll files placed = (file : KeptFile) → Contains files file → HasThose file.records.items placed

  -- each is one of the files', and its key stands at the vnode
  abbrev pub AreTheirs : List KeptFile → List Record → Type 0
  AreTheirs files placed = (r : Record) → Contains placed r → (stands placement r.key vnode ≡ true) × (file : KeptFile) × Contains files file × Contains file.records.items r

  -- each was there before, or is one of a file, and its key stands at the vnode
  abbrev pub CameOf : List Record → List Record → List Record → Type 0
  CameOf old records placed = (r : Record) → Contains placed r → Contains old r ⊎ ((stands placement r.key vnode ≡ true) × Contains records r)

  -- a record was added and its key stands at the vnode; or it was not, since it doesn't or some file has the same
  abbrev pub IsAddedOrSeen : List KeptFile → Record → List Record → List Record → Type 0
  IsAddedOrSeen files r old new =
      ((new ≡ old ++ r ∷ []) × (stands placement r.key vnode ≡ true))
      ⊎ ((new ≡ old) × (IsKey r.key → stands placement r.key vnode ≡ true → (file : KeptFile) × Contains files file × IsAmong file.records.items r))

-- what the records at a vnode have to be: of each record of the files whose key stands there the state, and nothing else
pub record IsPlacedAt (placement : PlacementView) (files : List KeptFile) (vnode : ℕ) (placed : List Record) : Type 0 where
  pub all : HasAll placement vnode files placed
  pub theirs : AreTheirs placement vnode files placed

-- at each of the vnodes
abbrev pub ArePlaced : PlacementView → List KeptFile → List KeptFile → Type 0
ArePlaced placement files placed = (vnode : ℕ) → vnode < placement.vnodes → IsPlacedAt placement files vnode (records_at placed vnode)

-- ---- how files are made one after another

-- a file of the vnode with an index is the first of that
abbrev pub IsFilled : List KeptFile → ℕ → Type 0
IsFilled files index = (more : List KeptFile) → records_at (files ++ more) index ≡ records_at files index

-- there is none of it
abbrev pub IsVacant : List KeptFile → ℕ → Type 0
IsVacant files index = (more : List KeptFile) → records_at (files ++ more) index ≡ records_at more index
