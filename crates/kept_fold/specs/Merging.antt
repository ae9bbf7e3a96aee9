-- The states of a key's records, merged one after another (this store's profile).
use Rattle.std.specs.Prelude.{◌≡◌, ◌↔◌, ℕ, ◌≤◌, ◌&&◌, Contains, nat_lt, Bool, if◌then◌else◌, List, [], ◌∷◌, ◌++◌, Option, None, Some, length}
use Rattle.std.specs.List.{flat_map, list_any}
use Rattle.dvv.specs.Clock.{vnodes_together, most_entries}
use Rattle.key_state.specs.declared.content.Key.{Key}
use Rattle.key_state.specs.State.{State, IsState, Merges, empty}
use Rattle.journal.specs.Keys.{same_key}
use Rattle.kept_file.specs.declared.file.KeptFile.{KeptFile}
use Rattle.record_codec.specs.declared.record.Record.{Record}
use Rattle.kept_fold.specs.declared.candidates.Merging.{Merging}
use Rattle.kept_fold.specs.declared.candidates.Merging.TheVariants as merging

-- the records of some files, in order
abbrev pub all_records : List KeptFile → List Record
all_records files = flat_map (λ (f : KeptFile). f.records.items) files

-- the states of a key's records, in order
abbrev pub states_of : List Record → Key → List State
states_of [] key = []
states_of (r ∷ records) key = if same_key r.key key then r.state ∷ states_of records key else states_of records key

-- states are merged into one, one after another, and no clock passes its limit on the way
abbrev pub MergesInto : State → List State → State → Type 0
MergesInto own [] last = last ≡ own
MergesInto own (s ∷ states) last = (new : State) × (vnodes_together own.clock s.clock ≤ most_entries) × Merges own s new × IsState new × MergesInto new states last

-- a key's records have no more states that differ than there are files: of each file one at most, or of each file's some that others have, too
abbrev pub HasFewStates : List KeptFile → Key → Type 0
HasFewStates files key = (different : List State) × (length different ≤ length files) × ((s : State) → Contains (states_of (all_records files) key) s ↔ Contains different s)

-- a state is the merge of some states, from nothing on
abbrev pub AreMerged : List State → State → Type 0
AreMerged states merged = MergesInto empty states merged

-- some record of a key has a clock of more entries than that
abbrev pub is_long : ℕ → List Record → Key → Bool
is_long least records key = list_any (λ (r : Record). same_key r.key key && nat_lt least (length r.state.clock)) records

-- what a merge has come to: the merge of these states, or there is none, since a clock passes its limit on the way
abbrev pub HasCome : List State → Merging → Type 0
HasCome states (merging.Merged state) = AreMerged states state
HasCome states merging.PastLimit = (state : State) → AreMerged states state → ⊥

-- more states were merged into that, where a key has a merge
abbrev pub GoesOn : List State → Option Merging → Option Merging → Type 0
GoesOn more None new = new ≡ None
GoesOn more (Some m) None = ⊥
GoesOn more (Some m) (Some n) = (states : List State) → HasCome states m → HasCome (states ++ more) n
