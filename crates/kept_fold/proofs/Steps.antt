-- Merges of states, one after another.
use Rattle.std.proofs.Common.{◌≡◌, ℕ, ◌+◌, ◌<◌, ◌≤◌, ◌++◌, Bool, true, false, List, [], ◌∷◌, length, take, get_or, refl, sym, ap, subst, ◌∙◌, arith, append_assoc, if◌then◌else◌}
use Rattle.std.specs.Prelude.{Option, None, Some}
use Rattle.std.proofs.lemmas.List.{append-nil, take_more}
use Rattle.std.proofs.lemmas.Grind.{flat_map-append}
use Rattle.std.proofs.Math.Nat.{lt_of_not-le}
use Rattle.dvv.specs.Clock.{vnodes_together, most_entries}
use Rattle.key_state.specs.declared.content.Key.{Key}
use Rattle.key_state.specs.State.{State, IsState, Merges, empty}
use Rattle.key_state.proofs.Same.{same_state}
use Rattle.journal.specs.Keys.{same_key}
use Rattle.kept_file.specs.declared.file.KeptFile.{KeptFile}
use Rattle.record_codec.specs.declared.record.Record.{Record}
use Rattle.kept_fold.specs.declared.candidates.Merging.{Merging}
use Rattle.kept_fold.specs.declared.candidates.Merging.TheVariants.{PastLimit}
use Rattle.kept_fold.specs.Merging.{AreMerged, GoesOn, HasCome, MergesInto, all_records, states_of}

-- ---- there is one merge of states

one_step : (own other a b : State) → Merges own other a → Merges own other b → IsState a → IsState b → a ≡ b
one_step own other a b p q is_a is_b =
    same_state a b is_a is_b (λ d. p.siblings d ∙ sym (q.siblings d)) (λ d. (λ h. (q.clock d).1 ((p.clock d).0 h), λ h. (p.clock d).1 ((q.clock d).0 h)))

pub one_merge : (states : List State) (own a b : State) → MergesInto own states a → MergesInto own states b → a ≡ b
one_merge [] own a b p q = p ∙ sym q
one_merge (s ∷ states) own a b (new, fits, merges, is, rest) (other, fits_b, merges_b, is_b, rest_b) =
    let same : new ≡ other = one_step own s new other merges merges_b is is_b in
    one_merge states other a b (subst (λ (x : State). MergesInto x states a) same rest) rest_b

-- a merge of more states is one of the first, and then one of the others
pub merges_split : (xs ys : List State) (own last : State) → MergesInto own (xs ++ ys) last → (mid : State) × MergesInto own xs mid × MergesInto mid ys last
merges_split [] ys own last p = (own, refl, p)
merges_split (x ∷ xs) ys own last (new, fits, merges, is, rest) = let r = merges_split xs ys new last rest in (r.0, (new, fits, merges, is, r.1), r.2)

pub merges_join : (xs ys : List State) (own mid last : State) → MergesInto own xs mid → MergesInto mid ys last → MergesInto own (xs ++ ys) last
merges_join [] ys own mid last p q = subst (λ (s : State). MergesInto s ys last) p q
merges_join (x ∷ xs) ys own mid last (new, fits, merges, is, rest) q = (new, fits, merges, is, merges_join xs ys new mid last rest q)

-- ---- what a merge comes to with one state more

pub still_past : (states : List State) (s : State) → HasCome states PastLimit → HasCome (states ++ s ∷ []) PastLimit
still_past states s none = λ last all. let r = merges_split states (s ∷ []) empty last all in none r.0 r.1

pub goes_past : (states : List State) (own s : State) → AreMerged states own → most_entries < vnodes_together own.clock s.clock → HasCome (states ++ s ∷ []) PastLimit
goes_past states own s so many = λ last all.
    let r = merges_split states (s ∷ []) empty last all in
    let same : r.0 ≡ own = one_merge states empty r.0 own r.1 so in
    let fits : vnodes_together own.clock s.clock ≤ most_entries = subst (λ (x : State). vnodes_together x.clock s.clock ≤ most_entries) same r.2.1 in
    absurd (omega (arith, fits, many))

pub goes_further : (states : List State) (own s new : State) → AreMerged states own → vnodes_together own.clock s.clock ≤ most_entries → Merges own s new → IsState new → AreMerged (states ++ s ∷ []) new
goes_further states own s new so fits merges is = merges_join states (s ∷ []) empty own new so (new, fits, merges, is, refl)

-- ---- what merges come to

pub stays : (o : Option Merging) → GoesOn [] o o
stays None = refl
stays (Some m) = λ states so. subst (λ (xs : List State). HasCome xs m) (sym (append-nil states)) so

pub on_and_on : (xs ys : List State) (a b c : Option Merging) → GoesOn xs a b → GoesOn ys b c → GoesOn (xs ++ ys) a c
on_and_on xs ys None b c p q = subst (λ (o : Option Merging). GoesOn ys o c) p q
on_and_on xs ys (Some m) None c p q = absurd p
on_and_on xs ys (Some m) (Some n) None p q = q
on_and_on xs ys (Some m) (Some n) (Some l) p q = λ states so. subst (λ (zs : List State). HasCome zs l) (append_assoc states xs ys) (q (states ++ xs) (p states so))

-- ---- the states of a key's records

one_more : (b : Bool) (x : State) (ls xs ys : List State) → ls ≡ xs ++ ys → (if b then x ∷ ls else ls) ≡ (if b then x ∷ xs else xs) ++ ys
one_more true x ls xs ys is = ap (λ (l : List State). x ∷ l) is
one_more false x ls xs ys is = is

pub states_append : (xs ys : List Record) (key : Key) → states_of (xs ++ ys) key ≡ states_of xs key ++ states_of ys key
states_append [] ys key = refl
states_append (x ∷ xs) ys key = one_more (same_key x.key key) x.state (states_of (xs ++ ys) key) (states_of xs key) (states_of ys key) (states_append xs ys key)

pub states_more : (records : List Record) (i : ℕ) (r : Record) (key : Key) → i < length records → r ≡ get_or records i r → states_of (take (i + 1) records) key ≡ states_of (take i records) key ++ states_of (r ∷ []) key
states_more records i r key lt is =
    ap (λ (l : List Record). states_of l key) (take_more records i r lt ∙ ap (λ (x : Record). take i records ++ x ∷ []) (sym is)) ∙ states_append (take i records) (r ∷ []) key

pub records_more : (files : List KeptFile) (i : ℕ) (f : KeptFile) → i < length files → f ≡ get_or files i f → all_records (take (i + 1) files) ≡ all_records (take i files) ++ f.records.items
records_more files i f lt is =
    ap all_records (take_more files i f lt ∙ ap (λ (x : KeptFile). take i files ++ x ∷ []) (sym is))
    ∙ flat_map-append (λ (f : KeptFile). f.records.items) (take i files) (f ∷ [])
    ∙ ap (λ (l : List Record). all_records (take i files) ++ l) (append-nil f.records.items)

pub goes_on_file : (files : List KeptFile) (i : ℕ) (f : KeptFile) (key : Key) (a b c : Option Merging) → i < length files → f ≡ get_or files i f
    → GoesOn (states_of (all_records (take i files)) key) a b → GoesOn (states_of f.records.items key) b c → GoesOn (states_of (all_records (take (i + 1) files)) key) a c
goes_on_file files i f key a b c lt is p q =
    subst (λ (l : List State). GoesOn l a c) (sym (ap (λ (l : List Record). states_of l key) (records_more files i f lt is) ∙ states_append (all_records (take i files)) f.records.items key))
    (on_and_on (states_of (all_records (take i files)) key) (states_of f.records.items key) a b c p q)

pub goes_on_record : (records : List Record) (i : ℕ) (r : Record) (key : Key) (a b c : Option Merging) → i < length records → r ≡ get_or records i r
    → GoesOn (states_of (take i records) key) a b → GoesOn (states_of (r ∷ []) key) b c → GoesOn (states_of (take (i + 1) records) key) a c
goes_on_record records i r key a b c lt is p q =
    subst (λ (l : List State). GoesOn l a c) (sym (states_more records i r key lt is)) (on_and_on (states_of (take i records) key) (states_of (r ∷ []) key) a b c p q)

-- ---- one record

-- where the record's key is this one, its merge has one state more; elsewhere it is what it was
pub one_put : (r : Record) (key : Key) (old new : Option Merging) (so_far next : Merging) → ((a b : Key) → same_key a b ≡ true → a ≡ b)
    → ((states : List State) → HasCome states so_far → HasCome (states ++ r.state ∷ []) next) → (same_key r.key key ≡ true → old ≡ Some so_far) → new ≡ (if same_key r.key key then Some next else old)
    → GoesOn (states_of (r ∷ []) key) old new
one_put r key old new so_far next one goes found is = by_test (same_key r.key key) found is
  where
    by_test : (b : Bool) → (b ≡ true → old ≡ Some so_far) → new ≡ (if b then Some next else old) → GoesOn (if b then r.state ∷ [] else []) old new
    by_test true there e = subst (λ (o : Option Merging). GoesOn (r.state ∷ []) o new) (sym (there refl)) (subst (λ (o : Option Merging). GoesOn (r.state ∷ []) (Some so_far) o) (sym e) goes)
    by_test false there e = subst (λ (o : Option Merging). GoesOn [] old o) (sym e) (stays old)

-- where the record's key has no merge, it has none then
pub none_there : (r : Record) (key : Key) (old : Option Merging) → (same_key r.key key ≡ true → old ≡ None) → GoesOn (states_of (r ∷ []) key) old old
none_there r key old lacks = by_test (same_key r.key key) lacks
  where
    by_test : (b : Bool) → (b ≡ true → old ≡ None) → GoesOn (if b then r.state ∷ [] else []) old old
    by_test true none = subst (λ (o : Option Merging). GoesOn (r.state ∷ []) o o) (sym (none refl)) refl
    by_test false none = stays old

-- ---- limits

pub room_left : (n : ℕ) → (most_entries < n → ⊥) → n ≤ most_entries
room_left n none = let small : n < most_entries + 1 = lt_of_not-le none in omega arith
