-- Keys, and what stands in lists of keyed writes.
use Rattle.std.proofs.Common.{◌≡◌, ℕ, zero, suc, ◌≤◌, ◌⊎◌, Bool, true, false, cond, List, [], ◌∷◌, ◌++◌, length, get_or, set, refl, sym, ap, subst, ◌∙◌, inl, inr, arith}
use Rattle.std.specs.Prelude.{Contains, map, filter}
use Rattle.std.proofs.lemmas.Bool.{cases_lt, cases_eq, and_parts, and_from, leb-true, le-leb}
use Rattle.std.proofs.lemmas.List.{get_or-set_same, get_or-set_other, append_assoc, append-nil}
use Rattle.std.proofs.lemmas.List.Elements.{Contains-append_left}
use Rattle.key_state.specs.declared.content.Key.{Key}
use Rattle.dvv.specs.declared.Dot.{Dot}
use Rattle.dvv.specs.Clock.{Covers, covers}
use Rattle.key_state.specs.Known.{Write}
use Rattle.journal.specs.Keys.{same_key}
use Rattle.journal.proofs.Keyed.{one_key, same_itself}
use Rattle.world.specs.Knowledge.{KeyedWrite, of_key, under}
use Rattle.world.specs.Causality.{EachAfter}

-- equal keys are told so
pub same_key-same : (a b : Key) → a ≡ b → same_key a b ≡ true
same_key-same a b e = ap (same_key a) (sym e) ∙ same_itself a

-- an element stands in a longer list
pub Contains-later : {X : Type 0} (y : X) (xs : List X) (x : X) → Contains xs x → Contains (y ∷ xs) x
Contains-later y xs x c = (suc c.0, omega (arith, c.1), c.2)

pub Contains-first : {X : Type 0} (x : X) (xs : List X) → Contains (x ∷ xs) x
Contains-first x xs = (0, omega arith, refl)

pub Contains-cases : {X : Type 0} (y : X) (xs : List X) (x : X) → Contains (y ∷ xs) x → (y ≡ x) ⊎ Contains xs x
Contains-cases y xs x (zero, lt, is) = inl is
Contains-cases y xs x (suc k, lt, is) = inr (k, omega arith, is)

pub Contains-nil : {X : Type 0} (x : X) → Contains [] x → ⊥
Contains-nil x (k, lt, is) = omega arith

-- a write of a key stands under that key
pub from_of_key : (key : Key) (stored : List KeyedWrite) (w : Write) → Contains (of_key key stored) w → Contains stored (record { key = key; write = w })
from_of_key key [] w c = absurd (Contains-nil w c)
from_of_key key (s ∷ stored) w c = go (λ h. from_of_key key stored w h) (same_key s.key key) refl c
  where
    go : (Contains (of_key key stored) w → Contains stored (record { key = key; write = w })) → (b : Bool) → same_key s.key key ≡ b → Contains (map (λ (t : KeyedWrite). t.write) (cond b (s ∷ filter (λ t. same_key t.key key) stored) (filter (λ t. same_key t.key key) stored))) w → Contains (s ∷ stored) (record { key = key; write = w })
    go further true e h = elim (Contains-cases s.write (of_key key stored) w h) [
      | inl is ↦ (0, omega arith, same s w is (one_key s.key key e))
      | inr rest ↦ Contains-later s stored (record { key = key; write = w }) (further rest)
    ]
      where
        same : (t : KeyedWrite) (v : Write) → t.write ≡ v → t.key ≡ key → t ≡ record { key = key; write = v }
        same t v a b = ap (λ (k : Key). let x : KeyedWrite = record { key = k; write = t.write } in x) b ∙ ap (λ (y : Write). let x : KeyedWrite = record { key = key; write = y } in x) a
    go further false e h = Contains-later s stored (record { key = key; write = w }) (further h)

pub to_of_key : (key : Key) (stored : List KeyedWrite) (w : Write) → Contains stored (record { key = key; write = w }) → Contains (of_key key stored) w
to_of_key key [] w c = absurd (Contains-nil (let x : KeyedWrite = record { key = key; write = w } in x) c)
to_of_key key (s ∷ stored) w c = go (λ h. to_of_key key stored w h) (same_key s.key key) refl (Contains-cases s stored (record { key = key; write = w }) c)
  where
    go : (Contains stored (record { key = key; write = w }) → Contains (of_key key stored) w) → (b : Bool) → same_key s.key key ≡ b → (s ≡ record { key = key; write = w }) ⊎ Contains stored (record { key = key; write = w }) → Contains (map (λ (t : KeyedWrite). t.write) (cond b (s ∷ filter (λ t. same_key t.key key) stored) (filter (λ t. same_key t.key key) stored))) w
    go further true e (inl is) = (0, omega arith, ap (λ (x : KeyedWrite). x.write) is)
    go further true e (inr rest) = Contains-later s.write (of_key key stored) w (further rest)
    go further false e (inl is) = absurd (let t = same_key-same s.key key (ap (λ (x : KeyedWrite). x.key) is) in cc)
    go further false e (inr rest) = further rest

-- writes under a key
pub from_under : (key : Key) (ws : List Write) (s : KeyedWrite) → Contains (under key ws) s → (s.key ≡ key) × Contains ws s.write
from_under key [] s c = absurd (Contains-nil s c)
from_under key (w ∷ ws) s c = elim (Contains-cases (let x : KeyedWrite = record { key = key; write = w } in x) (under key ws) s c) [
  | inl is ↦ (sym (ap (λ (x : KeyedWrite). x.key) is), (0, omega arith, ap (λ (x : KeyedWrite). x.write) is))
  | inr rest ↦ let r = from_under key ws s rest in (r.0, Contains-later w ws s.write r.1)
]

-- one more at the end, with all before it
pub EachAfter-push : {X : Type 0} (P : List X → X → Type 0) (before xs : List X) (x : X) → EachAfter P before xs → P (before ++ xs) x → EachAfter P before (xs ++ x ∷ [])
EachAfter-push P before [] x each last = (subst (λ ys. P ys x) (append-nil before) last, tt)
EachAfter-push P before (y ∷ ys) x each last = (each.0, EachAfter-push P (before ++ y ∷ []) ys x each.1 (subst (λ zs. P zs x) (sym (append_assoc before (y ∷ []) ys)) last))

-- what holds of each after those before it holds of each that stands there
pub EachAfter-weaker : {X : Type 0} (P Q : List X → X → Type 0) (before xs : List X) → ((ys : List X) (y : X) → P ys y → Q ys y) → EachAfter P before xs → EachAfter Q before xs
EachAfter-weaker P Q before [] f each = tt
EachAfter-weaker P Q before (x ∷ xs) f each = (f before x each.0, EachAfter-weaker P Q (before ++ x ∷ []) xs f each.1)

-- what is before an element that has others before it
pub EachAfter-at : {X : Type 0} (P : List X → X → Type 0) (before xs : List X) (x : X) → EachAfter P before xs → Contains xs x → (earlier : List X) × P earlier x × ((y : X) → Contains earlier y → Contains (before ++ xs) y)
EachAfter-at P before [] x each c = absurd (Contains-nil x c)
EachAfter-at P before (y ∷ ys) x each c = elim (Contains-cases y ys x c) [
  | inl is ↦ (before, subst (P before) is each.0, λ z h. Contains-append_left before (y ∷ ys) z h)
  | inr rest ↦ let r = EachAfter-at P (before ++ y ∷ []) ys x each.1 rest in (r.0, r.1, λ z h. subst (λ zs. Contains zs z) (append_assoc before (y ∷ []) ys) (r.2 z h))
]

-- what stands at a place of a list in which one was set
pub set_cases : {X : Type 0} (xs : List X) (i j : ℕ) (v d : X) → (get_or (set xs i v) j d ≡ get_or xs j d) ⊎ ((j ≡ i) × (get_or (set xs i v) j d ≡ v))
set_cases xs i j v d = elim (cases_eq j i) [
  | inl same ↦ elim (cases_lt i (length xs)) [
    | inl inside ↦ inr (same, subst (λ (k : ℕ). get_or (set xs i v) k d ≡ v) (sym same) (get_or-set_same xs i v d inside))
    | inr past ↦ inl (ap (λ ys. get_or ys j d) (set_past xs i v past))
  ]
  | inr other ↦ inl (get_or-set_other xs i j v d other)
]
  where
    set_past : {Y : Type 0} (ys : List Y) (k : ℕ) (w : Y) → length ys ≤ k → set ys k w ≡ ys
    set_past [] k w le = refl
    set_past (y ∷ ys) zero w le = absurd (omega arith)
    set_past (y ∷ ys) (suc k) w le = ap (λ zs. y ∷ zs) (set_past ys k w (omega arith))

-- what stands at a place of a list with one more at its end
pub push_cases : {X : Type 0} (xs : List X) (x : X) (j : ℕ) (d : X) → (get_or (xs ++ x ∷ []) j d ≡ get_or xs j d) ⊎ (get_or (xs ++ x ∷ []) j d ≡ x)
push_cases [] x zero d = inr refl
push_cases [] x (suc j) d = inl refl
push_cases (y ∷ ys) x zero d = inl refl
push_cases (y ∷ ys) x (suc j) d = push_cases ys x j d

-- tests of a clock and what they tell
pub covers-true : (clock : List Dot) (d : Dot) → covers clock d ≡ true → Covers clock d
covers-true clock d t = let p = and_parts _ _ t in (leb-true _ _ p.0, leb-true _ _ p.1)

pub covers-same : (clock : List Dot) (d : Dot) → Covers clock d → covers clock d ≡ true
covers-same clock d h = and_from _ _ (le-leb _ _ h.0) (le-leb _ _ h.1)
