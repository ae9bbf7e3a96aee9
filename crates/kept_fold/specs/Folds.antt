-- Keys whose contents are written anew, and what files hold then (this store's profile).
use Rattle.std.specs.Prelude.{◌≡◌, ℕ, ◌+◌, ◌/◌, ◌&&◌, max, nat_lt, nat_le, Bool, true, if◌then◌else◌, List, [], ◌∷◌, Option, None, Some, length, map}
use Rattle.std.specs.BTreeMap.{BTreeMap, get}
use Rattle.std.specs.List.{AllZip}
use Rattle.key_state.specs.declared.content.Key.{Key}
use Rattle.key_state.specs.declared.content.Sibling.{Sibling}
use Rattle.key_state.specs.State.{State}
use Rattle.journal.specs.Keys.{key_cmp}
use Rattle.kept_file.specs.declared.file.KeptFile.{KeptFile}
use Rattle.record_codec.specs.declared.record.Record.{Record}
use Rattle.kept_fold.specs.declared.candidates.Merging.{Merging}
use Rattle.kept_fold.specs.declared.candidates.Merging.TheVariants as merging
use Rattle.kept_fold.specs.Merging.{AreMerged, all_records, is_long, states_of}
use Rattle.kept_fold.specs.Stale.{AreFresh, fold_id}

-- ---- which keys are folded

-- the most entries of former starts in the clock of a key that stays as it is
abbrev pub most_former : ℕ
most_former = 32

-- each file's share of these entries: where a key's records have no more states that differ than there are files, a clock of more entries comes only of one with more than
-- its share
abbrev pub share : ℕ → ℕ
share files = most_former / max files 1

-- a state is to be folded: its clock has more entries, and there is a sibling
abbrev pub is_foldable : State → Bool
is_foldable state = nat_lt most_former (length state.clock) && nat_le 1 (length state.siblings)

-- a key is folded: the merge of its records is to be folded, and some record's clock has more than its file's share
pub record IsFold (files : List KeptFile) (key : Key) (merged : State) : Type 0 where
  pub merges : AreMerged (states_of (all_records files) key) merged
  pub foldable : is_foldable merged ≡ true
  pub long : is_long (share (length files)) (all_records files) key ≡ true

-- ---- what its records hold then

-- the contents of siblings, in order, under the dots of one identifier, whose numbers rise from n on
abbrev pub numbered : ℕ → ℕ → List Sibling → List Sibling
numbered id n [] = []
numbered id n (s ∷ siblings) = record { dot = record { vnode = id; n = n }; content = s.content } ∷ numbered id (n + 1) siblings

-- the state of the same contents, written anew under one identifier: its clock counts these writes, and nothing else
abbrev pub anew : ℕ → List Sibling → State
anew id siblings = record { siblings = numbered id 1 siblings; clock = record { vnode = id; n = length siblings } ∷ [] }

-- the record of that state, which is the identifier's own, behind these writes
abbrev pub record_anew : ℕ → Key → List Sibling → Record
record_anew id key siblings = record { key = key; from = id; at = length siblings; state = anew id siblings }

-- each record of a key that is folded is that of the merge's contents written anew, and any other stays
pub record IsRewritten (id : ℕ) (files : List KeptFile) (old new : Record) : Type 0 where
  pub folded : (merged : State) → IsFold files old.key merged → new ≡ record_anew id old.key merged.siblings
  pub others : ((merged : State) → IsFold files old.key merged → ⊥) → new ≡ old

abbrev pub AreRewritten : ℕ → List KeptFile → List KeptFile → Type 0
AreRewritten id files folded = AllZip (λ (old : KeptFile) (new : KeptFile). (new.from ≡ old.from) × AllZip (IsRewritten id files) old.records.items new.records.items) files folded

-- the start with a number has folded the keys of files: stale records are left out, and of the others those are rewritten whose keys are folded
pub record AreFolded (number : ℕ) (files folded : List KeptFile) : Type 0 where
  pub fresh : List KeptFile
  pub left : AreFresh files fresh
  pub rewritten : AreRewritten (fold_id number) fresh folded

-- ---- by the merges that were made

-- the merge that is to be folded, if it is
abbrev pub to_fold : Option Merging → Option State
to_fold None = None
to_fold (Some merging.PastLimit) = None
to_fold (Some (merging.Merged state)) = if is_foldable state then Some state else None

-- a record, rewritten by the merge that is to be folded
abbrev pub rewritten : ℕ → Option State → Record → Record
rewritten id None r = r
rewritten id (Some merged) r = record_anew id r.key merged.siblings

-- a file whose records are rewritten so
abbrev pub IsRewrittenBy : BTreeMap Key Merging → ℕ → KeptFile → KeptFile → Type 0
IsRewrittenBy merges id old new = (new.from ≡ old.from) × (new.records.items ≡ map (λ (r : Record). rewritten id (to_fold (get key_cmp merges r.key)) r) old.records.items)
