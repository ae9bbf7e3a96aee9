-- Records that a later start has left behind (this store's profile).
use Rattle.std.specs.BTreeMap.{BTreeMap, get}
use Rattle.std.specs.Prelude.{◌≡◌, ℕ, ◌*◌, ◌+◌, ◌/◌, ◌%◌, ◌==◌, max, not, nat_lt, Bool, if◌then◌else◌, List, [], ◌∷◌, Option, None, Some, filter}
use Rattle.std.specs.List.{AllZip}
use Rattle.dvv.specs.declared.Dot.{Dot}
use Rattle.key_state.specs.declared.content.Key.{Key}
use Rattle.journal.specs.Keys.{key_cmp, same_key}
use Rattle.kept_file.specs.declared.file.KeptFile.{KeptFile}
use Rattle.record_codec.specs.declared.record.Record.{Record}
use Rattle.kept_fold.specs.Merging.{all_records}

-- the index of the identifiers under which starts write contents anew, which is no vnode's
abbrev pub fold_index : ℕ
fold_index = 254

-- the identifier under which the start with a number does
abbrev pub fold_id : ℕ → ℕ
fold_id number = number * 256 + fold_index

-- the number of the start that an event is of
abbrev pub start_of : Dot → ℕ
start_of event = event.vnode / 256

-- the same of an event by which contents were written anew; 0 of any other
abbrev pub fold_in : Dot → ℕ
fold_in event = if (event.vnode % 256) == fold_index then event.vnode / 256 else 0

-- the greatest of the numbers of events; 0 of none
abbrev pub greatest : (Dot → ℕ) → List Dot → ℕ
greatest number [] = 0
greatest number (event ∷ events) = max (number event) (greatest number events)

-- the last start that wrote a key's contents anew, of those that records tell of; 0 where none did
abbrev pub last_fold : List Record → Key → ℕ
last_fold [] key = 0
last_fold (r ∷ records) key = max (if same_key r.key key then greatest fold_in r.state.clock else 0) (last_fold records key)

-- a record is stale among others: a start wrote its key's contents anew that is later than each of which it counts an event
abbrev pub is_stale : List Record → Record → Bool
is_stale records r = nat_lt (greatest start_of r.state.clock) (last_fold records r.key)

-- files without their stale records
abbrev pub AreFresh : List KeptFile → List KeptFile → Type 0
AreFresh files fresh =
    AllZip (λ (old : KeptFile) (new : KeptFile). (new.from ≡ old.from) × (new.records.items ≡ filter (λ (r : Record). not (is_stale (all_records files) r)) old.records.items)) files fresh

-- ---- by a map of them

-- the last start that wrote a key's contents anew
abbrev pub number_in : Option ℕ → ℕ
number_in None = 0
number_in (Some number) = number

abbrev pub number_at : BTreeMap Key ℕ → Key → ℕ
number_at last key = number_in (get key_cmp last key)

-- a record is of before that
abbrev pub is_behind : BTreeMap Key ℕ → Record → Bool
is_behind last r = nat_lt (greatest start_of r.state.clock) (number_at last r.key)

-- a file without such records
abbrev pub IsFreshBy : BTreeMap Key ℕ → KeptFile → KeptFile → Type 0
IsFreshBy last old new = (new.from ≡ old.from) × (new.records.items ≡ filter (λ (r : Record). not (is_behind last r)) old.records.items)
