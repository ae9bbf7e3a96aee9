-- Keys of which some record's clock is long.
use Rattle.std.proofs.Common.{◌≡◌, ℕ, ◌+◌, ◌<◌, ◌≤◌, ◌++◌, ◌&&◌, ◌||◌, Bool, true, false, List, [], ◌∷◌, length, take, get_or, refl, sym, ap, ◌∙◌, if◌then◌else◌}
use Rattle.std.specs.Prelude.{Option, None, Some, nat_lt}
use Rattle.std.proofs.lemmas.List.{take_more}
use Rattle.std.proofs.lemmas.List.Folds.{list_any-append}
use Rattle.std.proofs.lemmas.Bool.{le-ltb, lt-ltb}
use Rattle.key_state.specs.declared.content.Key.{Key}
use Rattle.journal.specs.Keys.{same_key}
use Rattle.kept_file.specs.declared.file.KeptFile.{KeptFile}
use Rattle.record_codec.specs.declared.record.Record.{Record}
use Rattle.kept_fold.specs.declared.candidates.Merging.{Merging}
use Rattle.kept_fold.specs.Merging.{all_records, is_long}
use Rattle.kept_fold.proofs.Steps.{records_more}

pub long_append : (least : ℕ) (xs ys : List Record) (key : Key) → is_long least (xs ++ ys) key ≡ (is_long least xs key || is_long least ys key)
long_append least xs ys key = list_any-append (λ (r : Record). same_key r.key key && nat_lt least (length r.state.clock)) xs ys

-- ---- one record

-- its clock is long: its key is added
added : (m : Merging) (old new : Option Merging) (b l : Bool) → l ≡ true → new ≡ (if b then Some m else old) → new ≡ (if ((b && l) || false) then Some m else old)
added m old new true l is p = rw is p
added m old new false l is p = p

-- it isn't: nothing is
kept : (m : Merging) (old : Option Merging) (b l : Bool) → l ≡ false → old ≡ (if ((b && l) || false) then Some m else old)
kept m old true l is = rw is refl
kept m old false l is = refl

pub long_one : (least : ℕ) (r : Record) (key : Key) (m : Merging) (old new : Option Merging) → least < length r.state.clock → new ≡ (if same_key r.key key then Some m else old) → new ≡ (if is_long least (r ∷ []) key then Some m else old)
long_one least r key m old new long is = added m old new (same_key r.key key) (nat_lt least (length r.state.clock)) (lt-ltb least (length r.state.clock) long) is

pub short_one : (least : ℕ) (r : Record) (key : Key) (m : Merging) (old : Option Merging) → length r.state.clock ≤ least → old ≡ (if is_long least (r ∷ []) key then Some m else old)
short_one least r key m old short = kept m old (same_key r.key key) (nat_lt least (length r.state.clock)) (le-ltb least (length r.state.clock) short)

-- ---- records so far, and more

both : (m : Merging) (old now new : Option Merging) (a b : Bool) → now ≡ (if a then Some m else old) → new ≡ (if b then Some m else now) → new ≡ (if (a || b) then Some m else old)
both m old now new true true p q = q
both m old now new true false p q = q ∙ p
both m old now new false true p q = q
both m old now new false false p q = q ∙ p

pub record_more : (least : ℕ) (records : List Record) (i : ℕ) (r : Record) (key : Key) (m : Merging) (old now new : Option Merging) → i < length records → r ≡ get_or records i r
    → now ≡ (if is_long least (take i records) key then Some m else old) → new ≡ (if is_long least (r ∷ []) key then Some m else now) → new ≡ (if is_long least (take (i + 1) records) key then Some m else old)
record_more least records i r key m old now new lt is p q =
    both m old now new (is_long least (take i records) key) (is_long least (r ∷ []) key) p q
    ∙ ap (λ (b : Bool). if b then Some m else old)
    (sym (ap (λ (l : List Record). is_long least l key) (take_more records i r lt ∙ ap (λ (x : Record). take i records ++ x ∷ []) (sym is)) ∙ long_append least (take i records) (r ∷ []) key))

pub file_more : (least : ℕ) (files : List KeptFile) (i : ℕ) (f : KeptFile) (key : Key) (m : Merging) (now new : Option Merging) → i < length files → f ≡ get_or files i f
    → now ≡ (if is_long least (all_records (take i files)) key then Some m else None) → new ≡ (if is_long least f.records.items key then Some m else now)
    → new ≡ (if is_long least (all_records (take (i + 1) files)) key then Some m else None)
file_more least files i f key m now new lt is p q =
    both m None now new (is_long least (all_records (take i files)) key) (is_long least f.records.items key) p q
    ∙ ap (λ (b : Bool). if b then Some m else None) (sym (ap (λ (l : List Record). is_long least l key) (records_more files i f lt is) ∙ long_append least (all_records (take i files)) f.records.items key))
