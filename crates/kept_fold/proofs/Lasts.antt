-- The last starts that records tell of.
use Rattle.std.proofs.Common.{◌≡◌, ℕ, zero, suc, ◌+◌, ◌*◌, ◌/◌, ◌%◌, ◌<◌, ◌≤◌, ◌++◌, Bool, true, false, not, List, [], ◌∷◌, length, take, get_or, refl, sym, ap, subst, ◌∙◌, arith, if◌then◌else◌}
use Rattle.std.specs.BTreeMap.{BTreeMap}
use Rattle.std.specs.Prelude.{◌==◌, max, nat_lt, filter, Contains, Option, Some}
use Rattle.std.proofs.Math.Nat.{le_refl}
use Rattle.std.proofs.lemmas.Bool.{lt-ltb}
use Rattle.journal.proofs.Keyed.{same_itself}
use Rattle.std.specs.List.{AllZip}
use Rattle.std.proofs.lemmas.List.{take_more}
use Rattle.dvv.specs.declared.Dot.{Dot}
use Rattle.key_state.specs.declared.content.Key.{Key}
use Rattle.journal.specs.Keys.{same_key}
use Rattle.kept_file.specs.declared.file.KeptFile.{KeptFile}
use Rattle.record_codec.specs.declared.record.Record.{Record}
use Rattle.kept_fold.specs.Merging.{all_records}
use Rattle.kept_fold.specs.Stale.{IsFreshBy, fold_id, fold_in, greatest, is_behind, is_stale, last_fold, number_at, number_in, start_of}
use Rattle.kept_fold.proofs.Steps.{records_more}

-- ---- the greatest of a clock's entries

greatest_append : (number : Dot → ℕ) (xs : List Dot) (x : Dot) → greatest number (xs ++ x ∷ []) ≡ max (greatest number xs) (number x)
greatest_append number [] x = omega arith
greatest_append number (y ∷ xs) x = ap (λ (n : ℕ). max (number y) n) (greatest_append number xs x) ∙ three (number y) (greatest number xs) (number x)
  where
    three : (a b c : ℕ) → max a (max b c) ≡ max (max a b) c
    three a b c = omega arith

pub greatest_more : (number : Dot → ℕ) (xs : List Dot) (i : ℕ) (d : Dot) (so_far new : ℕ) → i < length xs → so_far ≡ greatest number (take i xs) → new ≡ max so_far (number (get_or xs i d))
    → new ≡ greatest number (take (i + 1) xs)
greatest_more number xs i d so_far new lt so news =
    news ∙ ap (λ (n : ℕ). max n (number (get_or xs i d))) so
    ∙ sym (greatest_append number (take i xs) (get_or xs i d))
    ∙ ap (greatest number) (sym (take_more xs i d lt))

-- ---- the last fold of a key

last_append : (xs ys : List Record) (key : Key) → last_fold (xs ++ ys) key ≡ max (last_fold xs key) (last_fold ys key)
last_append [] ys key = omega arith
last_append (x ∷ xs) ys key =
    let n : ℕ = if same_key x.key key then greatest fold_in x.state.clock else 0 in
    ap (λ (m : ℕ). max n m) (last_append xs ys key) ∙ three n (last_fold xs key) (last_fold ys key)
  where
    three : (a b c : ℕ) → max a (max b c) ≡ max (max a b) c
    three a b c = omega arith

-- a record's fold is added
pub record_added : (r : Record) (key : Key) (old new : ℕ) → new ≡ (if same_key r.key key then max old (greatest fold_in r.state.clock) else old) → new ≡ max old (last_fold (r ∷ []) key)
record_added r key old new is = is ∙ by_test (same_key r.key key)
  where
    by_test : (b : Bool) → (if b then max old (greatest fold_in r.state.clock) else old) ≡ max old (max (if b then greatest fold_in r.state.clock else 0) 0)
    by_test true = omega arith
    by_test false = omega arith

pub records_added : (records : List Record) (i : ℕ) (r : Record) (key : Key) (old now new : ℕ) → i < length records → r ≡ get_or records i r → now ≡ max old (last_fold (take i records) key)
    → new ≡ (if same_key r.key key then max now (greatest fold_in r.state.clock) else now) → new ≡ max old (last_fold (take (i + 1) records) key)
records_added records i r key old now new lt is so news =
    let one : new ≡ max now (last_fold (r ∷ []) key) = record_added r key now new news in
    let more : last_fold (take (i + 1) records) key ≡ max (last_fold (take i records) key) (last_fold (r ∷ []) key) =
    ap (λ (l : List Record). last_fold l key) (take_more records i r lt ∙ ap (λ (x : Record). take i records ++ x ∷ []) (sym is)) ∙ last_append (take i records) (r ∷ []) key in
    three old (last_fold (take i records) key) (last_fold (r ∷ []) key) now new (last_fold (take (i + 1) records) key) so one more
  where
    three : (a b c now new all : ℕ) → now ≡ max a b → new ≡ max now c → all ≡ max b c → new ≡ max a all
    three a b c now new all p q r = omega arith

pub file_added : (files : List KeptFile) (i : ℕ) (f : KeptFile) (key : Key) (now new : ℕ) → i < length files → f ≡ get_or files i f → now ≡ last_fold (all_records (take i files)) key
    → new ≡ max now (last_fold f.records.items key) → new ≡ last_fold (all_records (take (i + 1) files)) key
file_added files i f key now new lt is so news =
    news ∙ ap (λ (n : ℕ). max n (last_fold f.records.items key)) so
    ∙ sym (last_append (all_records (take i files)) f.records.items key)
    ∙ ap (λ (l : List Record). last_fold l key) (sym (records_more files i f lt is))

-- ---- a map of them

-- a greater number was put at a key
pub put_greater : (r : Record) (key : Key) (old new : Option ℕ) (number was : ℕ) → ((a b : Key) → same_key a b ≡ true → a ≡ b) → (same_key r.key key ≡ true → number_in old ≡ was) → was < number
    → number ≡ greatest fold_in r.state.clock → new ≡ (if same_key r.key key then Some number else old)
    → number_in new ≡ (if same_key r.key key then max (number_in old) (greatest fold_in r.state.clock) else number_in old)
put_greater r key old new number was one had lt is put = ap number_in put ∙ by_test (same_key r.key key) had
  where
    by_test : (b : Bool) → (b ≡ true → number_in old ≡ was) → number_in (if b then Some number else old) ≡ (if b then max (number_in old) (greatest fold_in r.state.clock) else number_in old)
    by_test true h = let e = h refl in omega (arith, e, lt, is)
    by_test false h = refl

-- none was: it isn't greater
pub kept_greater : (r : Record) (key : Key) (old : ℕ) (number was : ℕ) → (same_key r.key key ≡ true → old ≡ was) → number ≤ was → number ≡ greatest fold_in r.state.clock
    → old ≡ (if same_key r.key key then max old (greatest fold_in r.state.clock) else old)
kept_greater r key old number was had le is = by_test (same_key r.key key) had
  where
    by_test : (b : Bool) → (b ≡ true → old ≡ was) → old ≡ (if b then max old (greatest fold_in r.state.clock) else old)
    by_test true h = let e = h refl in omega (arith, e, le, is)
    by_test false h = refl

-- ---- what is left

filter_alike : {X : Type 0} (p q : X → Bool) → ((x : X) → p x ≡ q x) → (xs : List X) → filter p xs ≡ filter q xs
filter_alike p q h [] = refl
filter_alike p q h (x ∷ xs) = ap (λ (b : Bool). if b then x ∷ filter p xs else filter p xs) (h x) ∙ ap (λ l. if q x then x ∷ l else l) (filter_alike p q h xs)

module _ (last : BTreeMap Key ℕ) (records : List Record) (each : (key : Key) → number_at last key ≡ last_fold records key) where
  fresh_alike : (some : List Record) → filter (λ (r : Record). not (is_behind last r)) some ≡ filter (λ (r : Record). not (is_stale records r)) some
  fresh_alike some =
      filter_alike (λ (r : Record). not (is_behind last r)) (λ (r : Record). not (is_stale records r)) (λ r. ap (λ (n : ℕ). not (nat_lt (greatest start_of r.state.clock) n)) (each r.key)) some

  pub are_fresh_by : (files fresh : List KeptFile) → AllZip (IsFreshBy last) files fresh
      → AllZip (λ (old : KeptFile) (new : KeptFile). (new.from ≡ old.from) × (new.records.items ≡ filter (λ (r : Record). not (is_stale records r)) old.records.items)) files fresh
  are_fresh_by [] [] all = tt
  are_fresh_by [] (f ∷ fresh) all = absurd all
  are_fresh_by (f ∷ files) [] all = absurd all
  are_fresh_by (f ∷ files) (g ∷ fresh) all = ((all.0.0, all.0.1 ∙ fresh_alike f.records.items), are_fresh_by files fresh all.1)

-- ---- records of before a fold

fold_in_id : (number n : ℕ) → fold_in (record { vnode = fold_id number; n = n }) ≡ number
fold_in_id number n =
    let rest : (number * 256 + 254) % 256 ≡ 254 = omega arith in
    let upper : (number * 256 + 254) / 256 ≡ number = omega arith in
    ap (λ (k : ℕ). if k == 254 then (number * 256 + 254) / 256 else 0) rest ∙ upper

le_max_left : (a b c : ℕ) → c ≤ a → c ≤ max a b
le_max_left a b c le = omega (arith, le)

le_max_right : (a b c : ℕ) → c ≤ b → c ≤ max a b
le_max_right a b c le = omega (arith, le)

greatest_from : (number : Dot → ℕ) (events : List Dot) (event : Dot) → Contains events event → number event ≤ greatest number events
greatest_from number [] event (k, lt, is) = absurd (omega (arith, lt))
greatest_from number (e ∷ events) event (zero, lt, is) = le_max_left (number e) (greatest number events) (number event) (subst (λ (x : Dot). number x ≤ number e) is (le_refl (number e)))
greatest_from number (e ∷ events) event (suc k, lt, is) = le_max_right (number e) (greatest number events) (number event) (greatest_from number events event (k, (let l = lt in omega (arith, l)), is))

last_from : (records : List Record) (later : Record) → Contains records later → greatest fold_in later.state.clock ≤ last_fold records later.key
last_from [] later (k, lt, is) = absurd (omega (arith, lt))
last_from (r ∷ records) later (zero, lt, is) =
    le_max_left (if same_key r.key later.key then greatest fold_in r.state.clock else 0) (last_fold records later.key) (greatest fold_in later.state.clock)
    (subst (λ (x : Record). greatest fold_in later.state.clock ≤ (if same_key x.key later.key then greatest fold_in x.state.clock else 0)) (sym is)
    (subst (λ (b : Bool). greatest fold_in later.state.clock ≤ (if b then greatest fold_in later.state.clock else 0)) (sym (same_itself later.key)) (le_refl (greatest fold_in later.state.clock))))
last_from (r ∷ records) later (suc k, lt, is) =
    le_max_right (if same_key r.key later.key then greatest fold_in r.state.clock else 0) (last_fold records later.key) (greatest fold_in later.state.clock) (last_from records later (k, (let l = lt in omega (arith, l)), is))

pub before_is_stale : (records : List Record) (old later : Record) (number n : ℕ) → Contains records later → later.key ≡ old.key → Contains later.state.clock (record { vnode = fold_id number; n = n })
    → greatest start_of old.state.clock < number → is_stale records old ≡ true
before_is_stale records old later number n among same counts before =
    let here : number ≤ greatest fold_in later.state.clock =
    subst (λ (k : ℕ). k ≤ greatest fold_in later.state.clock) (fold_in_id number n) (greatest_from fold_in later.state.clock (record { vnode = fold_id number; n = n }) counts) in
    let all : greatest fold_in later.state.clock ≤ last_fold records old.key = subst (λ (k : Key). greatest fold_in later.state.clock ≤ last_fold records k) same (last_from records later among) in
    lt-ltb (greatest start_of old.state.clock) (last_fold records old.key) (omega (arith, here, all, before))
