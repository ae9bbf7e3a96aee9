-- The clock of a merge has no more identifiers than those of its states together, each state once: one that is long comes of a record that is.
use Rattle.std.proofs.Common.{◌≡◌, ℕ, zero, suc, ◌+◌, ◌*◌, ◌/◌, ◌<◌, ◌≤◌, ◌++◌, ◌⊎◌, inl, inr, ◌||◌, ◌&&◌, Bool, true, false, List, [], ◌∷◌, length, map, refl, sym, ap, subst, ◌∙◌, arith, if◌then◌else◌}
use Rattle.std.specs.Prelude.{◌==◌, Contains, nat_eq, nat_lt, max}
use Rattle.std.specs.List.{AllByRecursion, IsDistinct, list_any}
use Rattle.std.proofs.Math.Nat.{mul-div-le, mul-le-mul_right, suc-mul}
use Rattle.std.proofs.lemmas.Bool.{eq-eqb, eqb-true, ltb-false, ltb-true, ne_eqb}
use Rattle.std.proofs.lemmas.Cmp.{nat_eq_equiv}
use Rattle.std.proofs.lemmas.List.{length-append}
use Rattle.std.proofs.lemmas.List.Folds.{list_any-append}
use Rattle.std.proofs.lemmas.Map.Made.{length-le_from_is_member}
use Rattle.dvv.specs.declared.Dot.{Dot}
use Rattle.dvv.specs.Clock.{AreRising, Covers, counter}
use Rattle.key_state.specs.declared.content.Key.{Key}
use Rattle.key_state.specs.State.{State, empty}
use Rattle.journal.specs.Keys.{same_key}
use Rattle.kept_file.specs.declared.file.KeptFile.{KeptFile}
use Rattle.record_codec.specs.declared.record.Record.{Record}
use Rattle.kept_fold.specs.Merging.{AreMerged, HasFewStates, MergesInto, all_records, is_long, states_of}
use Rattle.kept_fold.specs.Folds.{IsFold, is_foldable, most_former, share}
use Rattle.kept_fold.proofs.Steps.{states_append}

-- ---- identifiers of clocks

abbrev ids : List Dot → List ℕ
ids clock = map (λ (e : Dot). e.vnode) clock

counted : (clock : List Dot) (bound q : ℕ) → AreRising bound clock → list_any (nat_eq q) (ids clock) ≡ true → 1 ≤ counter clock q
counted [] bound q rising some = absurd (let e : false ≡ true = some in cc)
counted (e ∷ es) bound q rising some = by_test (e.vnode == q) refl (counted es (e.vnode + 1) q rising.3)
  where
    by_test : (b : Bool) → (e.vnode == q) ≡ b → (list_any (nat_eq q) (ids es) ≡ true → 1 ≤ counter es q) → 1 ≤ (if b then e.n else counter es q)
    by_test true is rest = rising.1
    by_test false is rest =
        let apart : nat_eq q e.vnode ≡ false = ne_eqb q e.vnode (λ same. let no : false ≡ true = sym is ∙ eq-eqb e.vnode q (sym same) in absurd cc) in
        rest (sym (ap (λ (b : Bool). b || list_any (nat_eq q) (ids es)) apart) ∙ some)

either : (b c : Bool) → c ≡ true → (b || c) ≡ true
either true c is = refl
either false c is = is

member : (clock : List Dot) (q : ℕ) → 1 ≤ counter clock q → list_any (nat_eq q) (ids clock) ≡ true
member [] q some = absurd (omega (arith, some))
member (e ∷ es) q some = by_test (e.vnode == q) refl some (member es q)
  where
    by_test : (b : Bool) → (e.vnode == q) ≡ b → 1 ≤ (if b then e.n else counter es q) → (1 ≤ counter es q → list_any (nat_eq q) (ids es) ≡ true) → (nat_eq q e.vnode || list_any (nat_eq q) (ids es)) ≡ true
    by_test true is some rest = ap (λ (b : Bool). b || list_any (nat_eq q) (ids es)) (eq-eqb q e.vnode (sym (eqb-true e.vnode q is)))
    by_test false is some rest = either (nat_eq q e.vnode) (list_any (nat_eq q) (ids es)) (rest some)

apart : (clock : List Dot) (k bound : ℕ) → k < bound → AreRising bound clock → AllByRecursion (λ (y : ℕ). nat_eq k y ≡ false) (ids clock)
apart [] k bound lt rising = tt
apart (e ∷ es) k bound lt rising =
    let above = rising.0 in
    (ne_eqb k e.vnode (λ same. absurd (omega (arith, lt, above, same))), apart es k (e.vnode + 1) (omega (arith, lt, above)) rising.3)

distinct : (clock : List Dot) (bound : ℕ) → AreRising bound clock → IsDistinct nat_eq (ids clock)
unfolding IsDistinct
distinct [] bound rising = tt
distinct (e ∷ es) bound rising = (apart es e.vnode (e.vnode + 1) (omega arith) rising.3, distinct es (e.vnode + 1) rising.3)

ids_length : (clock : List Dot) → length (ids clock) ≡ length clock
ids_length [] = refl
ids_length (e ∷ es) = ap suc (ids_length es)

-- ---- elements of lists

first : {X : Type 0} (x : X) (xs : List X) → Contains (x ∷ xs) x
first x xs = (0, omega arith, refl)

later : {X : Type 0} (y : X) (xs : List X) (x : X) → Contains xs x → Contains (y ∷ xs) x
later y xs x c = (suc c.0, omega (arith, c.1), c.2)

cases : {X : Type 0} (y : X) (xs : List X) (x : X) → Contains (y ∷ xs) x → (y ≡ x) ⊎ Contains xs x
cases y xs x (zero, lt, is) = inl is
cases y xs x (suc k, lt, is) = inr (k, omega arith, is)

none : {X : Type 0} (x : X) → Contains [] x → ⊥
none x (k, lt, is) = omega arith

-- ---- the identifiers of several clocks

abbrev all_ids : List State → List ℕ
all_ids [] = []
all_ids (s ∷ states) = ids s.clock ++ all_ids states

-- how many entries the clocks of states have together
abbrev together : List State → ℕ
together [] = 0
together (s ∷ states) = length s.clock + together states

ids_before : (a : List Dot) (xs : List ℕ) → length (ids a ++ xs) ≡ length a + length xs
ids_before [] xs = omega arith
ids_before (e ∷ a) xs = let rest = ids_before a xs in omega (arith, rest)

all_ids_length : (states : List State) → length (all_ids states) ≡ together states
all_ids_length [] = refl
all_ids_length (s ∷ states) = let one = ids_before s.clock (all_ids states) in let rest = all_ids_length states in omega (arith, one, rest)

there : (q : ℕ) (states : List State) (s : State) → Contains states s → list_any (nat_eq q) (ids s.clock) ≡ true → list_any (nat_eq q) (all_ids states) ≡ true
there q [] s c is = absurd (none s c)
there q (t ∷ states) s c is = list_any-append (nat_eq q) (ids t.clock) (all_ids states) ∙ from (cases t states s c) (λ rest. there q states s rest is)
  where
    from : (t ≡ s) ⊎ Contains states s → (Contains states s → list_any (nat_eq q) (all_ids states) ≡ true) → (list_any (nat_eq q) (ids t.clock) || list_any (nat_eq q) (all_ids states)) ≡ true
    from (inl same) others = ap (λ (b : Bool). b || list_any (nat_eq q) (all_ids states)) (ap (λ (u : State). list_any (nat_eq q) (ids u.clock)) same ∙ is)
    from (inr rest) others = either (list_any (nat_eq q) (ids t.clock)) (list_any (nat_eq q) (all_ids states)) (others rest)

-- ---- the clock of a merge

rising_after : (states : List State) (own last : State) → AreRising 0 own.clock → MergesInto own states last → AreRising 0 last.clock
rising_after [] own last rising is = subst (λ (s : State). AreRising 0 s.clock) (sym is) rising
rising_after (s ∷ states) own last rising (new, fits, merges, is, rest) = rising_after states new last is.clock.rising rest

-- what it counts comes of one of the states
came : (states : List State) (own last : State) (q : ℕ) → MergesInto own states last → 1 ≤ counter last.clock q → (1 ≤ counter own.clock q) ⊎ ((s : State) × Contains states s × (1 ≤ counter s.clock q))
came [] own last q is some = inl (subst (λ (s : State). 1 ≤ counter s.clock q) is some)
came (s ∷ states) own last q (new, fits, merges, is, rest) some = from (came states new last q rest some)
  where
    of_two : Covers own.clock (record { vnode = q; n = 1 }) ⊎ Covers s.clock (record { vnode = q; n = 1 }) → (1 ≤ counter own.clock q) ⊎ ((t : State) × Contains (s ∷ states) t × (1 ≤ counter t.clock q))
    of_two (inl covers) = inl covers.1
    of_two (inr covers) = inr (s, first s states, covers.1)

    from : (1 ≤ counter new.clock q) ⊎ ((t : State) × Contains states t × (1 ≤ counter t.clock q)) → (1 ≤ counter own.clock q) ⊎ ((t : State) × Contains (s ∷ states) t × (1 ≤ counter t.clock q))
    from (inl at) = let one : 1 ≤ 1 = omega arith in of_two ((merges.clock (record { vnode = q; n = 1 })).0 (one, at))
    from (inr (t, c, at)) = inr (t, later s states t c, at)

-- so it has no more entries than the clocks of states together among which they all are
merged_short : (states different : List State) (merged : State) → ((s : State) → Contains states s → Contains different s) → AreMerged states merged → length merged.clock ≤ together different
merged_short states different merged those merges =
    let all : length (ids merged.clock) ≤ length (all_ids different) = length-le_from_is_member nat_eq_equiv (ids merged.clock) (all_ids different) (distinct merged.clock 0 rising) among in
    let x = ids_length merged.clock in
    let y = all_ids_length different in
    omega (arith, all, x, y)
  where
    rising : AreRising 0 merged.clock
    rising = rising_after states empty merged tt merges

    from : (q : ℕ) → (1 ≤ counter empty.clock q) ⊎ ((s : State) × Contains states s × (1 ≤ counter s.clock q)) → list_any (nat_eq q) (all_ids different) ≡ true
    from q (inl own) = absurd (let e : 1 ≤ 0 = own in omega (arith, e))
    from q (inr (s, c, at)) = there q different s (those s c) (member s.clock q at)

    among : (q : ℕ) → list_any (nat_eq q) (ids merged.clock) ≡ true → list_any (nat_eq q) (all_ids different) ≡ true
    among q is = from q (came states empty merged q merges (counted merged.clock 0 q rising is))

-- ---- records none of which is long

either_false : (b c : Bool) → (b || c) ≡ false → (b ≡ false) × (c ≡ false)
either_false true c is = absurd (let e : true ≡ false = is in cc)
either_false false c is = (refl, is)

all_short : (n : ℕ) (records : List Record) (key : Key) → is_long n records key ≡ false → AllByRecursion (λ (s : State). length s.clock ≤ n) (states_of records key)
all_short n [] key is = tt
all_short n (r ∷ records) key is =
    let e = either_false (same_key r.key key && nat_lt n (length r.state.clock)) (is_long n records key) is in by_test (same_key r.key key) e.0 (all_short n records key e.1)
  where
    by_test : (b : Bool) → (b && nat_lt n (length r.state.clock)) ≡ false → AllByRecursion (λ (s : State). length s.clock ≤ n) (states_of records key)
        → AllByRecursion (λ (s : State). length s.clock ≤ n) (if b then r.state ∷ states_of records key else states_of records key)
    by_test true short rest = (ltb-false n (length r.state.clock) short, rest)
    by_test false short rest = rest

each_short : (n : ℕ) (states : List State) → AllByRecursion (λ (s : State). length s.clock ≤ n) states → (s : State) → Contains states s → length s.clock ≤ n
each_short n [] all s c = absurd (none s c)
each_short n (t ∷ states) all s c = from (cases t states s c) (each_short n states all.1 s)
  where
    from : (t ≡ s) ⊎ Contains states s → (Contains states s → length s.clock ≤ n) → length s.clock ≤ n
    from (inl same) others = subst (λ (u : State). length u.clock ≤ n) same all.0
    from (inr rest) others = others rest

together_short : (n : ℕ) (states : List State) → ((s : State) → Contains states s → length s.clock ≤ n) → together states ≤ length states * n
together_short n [] all = omega arith
together_short n (s ∷ states) all =
    let one : length s.clock ≤ n = all s (first s states) in
    let rest : together states ≤ length states * n = together_short n states (λ t c. all t (later s states t c)) in
    let product : suc (length states) * n ≡ length states * n + n = suc-mul (length states) n in
    omega (arith, one, rest, product)

-- ---- a key whose merge has more

shared_out : (files : ℕ) → files * (most_former / max files 1) ≤ most_former
shared_out zero = omega arith
shared_out (suc files) = subst (λ (k : ℕ). suc files * (most_former / k) ≤ most_former) (let e : suc files ≡ max (suc files) 1 = omega arith in e) (mul-div-le most_former (suc files))

and_left : (b c : Bool) → (b && c) ≡ true → b ≡ true
and_left true c is = refl
and_left false c is = is

pub more_is_long : (files : List KeptFile) (key : Key) (merged : State) → HasFewStates files key → AreMerged (states_of (all_records files) key) merged → is_foldable merged ≡ true → IsFold files key merged
more_is_long files key merged (different, few, same) merges fold = record { merges = merges; foldable = fold; long = by_test (is_long (share (length files)) (all_records files) key) refl }
  where
    by_test : (b : Bool) → is_long (share (length files)) (all_records files) key ≡ b → is_long (share (length files)) (all_records files) key ≡ true
    by_test true is = is
    by_test false is = absurd (
        let short : length merged.clock ≤ together different = merged_short (states_of (all_records files) key) different merged (λ s. (same s).0) merges in
        let all : together different ≤ length different * share (length files) = together_short (share (length files)) different
        (λ s c. each_short (share (length files)) (states_of (all_records files) key) (all_short (share (length files)) (all_records files) key is) s ((same s).1 c)) in
        let fits : length different * share (length files) ≤ length files * share (length files) = mul-le-mul_right (share (length files)) few in
        let most : length files * share (length files) ≤ 32 = shared_out (length files) in
        let many : 32 < length merged.clock = ltb-true most_former (length merged.clock) (and_left (nat_lt most_former (length merged.clock)) _ fold) in
        omega (arith, short, all, fits, most, many))

-- ---- files each of which has a key once at most

abbrev AreOnce : List KeptFile → Key → Type 0
AreOnce files key = AllByRecursion (λ (f : KeptFile). length (states_of f.records.items key) ≤ 1) files

each_once : (files : List KeptFile) (key : Key) → AreOnce files key → length (states_of (all_records files) key) ≤ length files
each_once [] key once = omega arith
each_once (f ∷ files) key once =
    let one : length (states_of f.records.items key) ≤ 1 = once.0 in
    let rest : length (states_of (all_records files) key) ≤ length files = each_once files key once.1 in
    let both : length (states_of (f.records.items ++ all_records files) key) ≡ length (states_of f.records.items key) + length (states_of (all_records files) key) =
    ap (λ (states : List State). length states) (states_append f.records.items (all_records files) key) ∙ length-append (states_of f.records.items key) (states_of (all_records files) key) in
    omega (arith, one, rest, both)

pub once_is_few : (files : List KeptFile) (key : Key) → AreOnce files key → HasFewStates files key
once_is_few files key once = (states_of (all_records files) key, each_once files key once, λ s. (λ c. c, λ c. c))
