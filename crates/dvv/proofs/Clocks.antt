-- What `counter` says of lists of entries.
use Rattle.std.proofs.Common.{◌≡◌, ℕ, zero, suc, ◌+◌, ◌^◌, ◌<◌, ◌≤◌, ◌⊎◌, ◌↔◌, ◌≢◌, List, [], ◌∷◌, ◌++◌, length, get_or, set, take, drop, refl, sym, ap, subst, ◌∙◌, inl, inr, arith}
use Rattle.std.specs.Prelude.{max, Contains, All}
use Rattle.std.specs.List.{AllByRecursion}
use Rattle.std.proofs.lemmas.List.Elements.{recursion_from_All}
use Rattle.std.proofs.lemmas.List.{append-nil, length-append, length-take, length-drop}
use Rattle.std.proofs.Common.{length-set}
use Rattle.std.proofs.lemmas.Bool.{cases_lt, cases_eq}
use Rattle.std.proofs.lemmas.Bool.Decides.{nat_tests}
use Rattle.dvv.specs.declared.Dot.{Dot}
use Rattle.dvv.specs.Clock.{counter, Covers, IsUnion, AddsEvent, AddsVnode, IsGreatest, AreRising, IsClock, IsPlaceOf, IsGapFor, vnodes_together}

-- dots are equal by their parts
pub same_dot : (a b : Dot) → a.vnode ≡ b.vnode → a.n ≡ b.n → a ≡ b
same_dot a b v n = ap (λ (x : ℕ). let d : Dot = record { vnode = x; n = a.n } in d) v ∙ ap (λ (x : ℕ). let d : Dot = record { vnode = b.vnode; n = x } in d) n

-- a vnode below all entries counts 0
pub counter_below : (bound : ℕ) (es : List Dot) (v : ℕ) → AreRising bound es → v < bound → counter es v ≡ 0
counter_below bound [] v r lt = refl
counter_below bound (e ∷ es) v r lt = grind (arith, nat_tests, counter_below (e.vnode + 1) es v r.3 (omega arith))

-- entries above a bound are above a lower one
pub rising_lower : (low high : ℕ) (es : List Dot) → low ≤ high → AreRising high es → AreRising low es
rising_lower low high [] le r = tt
rising_lower low high (e ∷ es) le r = (omega arith, r.1, r.2, r.3)

-- no counter is past the limit
pub counter_limit : (bound : ℕ) (es : List Dot) (v : ℕ) → AreRising bound es → counter es v ≤ 2 ^ 62
counter_limit bound [] v r = omega arith
counter_limit bound (e ∷ es) v r = grind (arith, nat_tests, counter_limit (e.vnode + 1) es v r.3, r.2)

-- the first entry of a vnode in range gives its counter
pub counter_head : (e : Dot) (es : List Dot) (v : ℕ) → e.vnode ≡ v → counter (e ∷ es) v ≡ e.n
counter_head e es v same = grind (arith, nat_tests)

pub counter_tail : (e : Dot) (es : List Dot) (v : ℕ) → e.vnode ≢ v → counter (e ∷ es) v ≡ counter es v
counter_tail e es v other = grind (arith, nat_tests)

-- the counter of two lists, the first of which counts at least 1 where it has the vnode
pub counter-append_left : (bound : ℕ) (xs ys : List Dot) (v : ℕ) → AreRising bound xs → 1 ≤ counter xs v → counter (xs ++ ys) v ≡ counter xs v
counter-append_left bound [] ys v r has = absurd (omega arith)
counter-append_left bound (x ∷ xs) ys v r has = elim (cases_eq x.vnode v) [
  | inl same ↦ rw (counter_head x (xs ++ ys) v same, counter_head x xs v same) refl
  | inr other ↦ rw (counter_tail x (xs ++ ys) v other, counter_tail x xs v other) (counter-append_left (x.vnode + 1) xs ys v r.3 (rw (counter_tail x xs v other) at has))
]

pub counter-append_right : (bound : ℕ) (xs ys : List Dot) (v : ℕ) → AreRising bound xs → counter xs v ≡ 0 → counter (xs ++ ys) v ≡ counter ys v
counter-append_right bound [] ys v r none = refl
counter-append_right bound (x ∷ xs) ys v r none = elim (cases_eq x.vnode v) [
  | inl same ↦ absurd (omega (arith, rw (counter_head x xs v same) at none, r.1))
  | inr other ↦ rw (counter_tail x (xs ++ ys) v other) (counter-append_right (x.vnode + 1) xs ys v r.3 (rw (counter_tail x xs v other) at none))
]

-- an entry that stands in the list counts from 1
at_least_from : (b : ℕ) (xs : List Dot) (j : ℕ) (x : Dot) → AreRising b xs → j < length xs → get_or xs j x ≡ x → 1 ≤ x.n
at_least_from b [] j x rr ll ii = absurd (omega arith)
at_least_from b (y ∷ xs) zero x rr ll ii = subst (λ (z : Dot). 1 ≤ z.n) ii rr.1
at_least_from b (y ∷ xs) (suc j) x rr ll ii = at_least_from (y.vnode + 1) xs j x rr.3 (omega arith) ii

at_least : (xs : List Dot) (j : ℕ) (x : Dot) → AreRising 0 xs → j < length xs → get_or xs j x ≡ x → 1 ≤ x.n
at_least xs j x rr ll ii = at_least_from 0 xs j x rr ll ii

-- an entry that stands in the list is its vnode's counter
pub counter_at : (bound : ℕ) (es : List Dot) (k : ℕ) (d : Dot) → AreRising bound es → k < length es → get_or es k d ≡ d → counter es d.vnode ≡ d.n
counter_at bound [] k d r lt is = absurd (omega arith)
counter_at bound (e ∷ es) zero d r lt is = counter_head e es d.vnode (ap (λ (x : Dot). x.vnode) is) ∙ ap (λ (x : Dot). x.n) is
counter_at bound (e ∷ es) (suc k) d r lt is = elim (cases_eq e.vnode d.vnode) [
  | inl same ↦ absurd (omega (arith, counter_at (e.vnode + 1) es k d r.3 (omega arith) is, counter_below (e.vnode + 1) es d.vnode r.3 (omega arith), at_least_from (e.vnode + 1) es k d r.3 (omega arith) is))
  | inr other ↦ rw (counter_tail e es d.vnode other) (counter_at (e.vnode + 1) es k d r.3 (omega arith) is)
]

-- where a vnode counts, its entry stands in the list
pub entry_of : (bound : ℕ) (es : List Dot) (d : Dot) → AreRising bound es → 1 ≤ d.n → counter es d.vnode ≡ d.n → Contains es d
entry_of bound [] d r one is = absurd (omega arith)
entry_of bound (e ∷ es) d r one is = elim (cases_eq e.vnode d.vnode) [
  | inl same ↦ (0, omega arith, same_dot e d same (sym (counter_head e es d.vnode same) ∙ is))
  | inr other ↦ later (entry_of (e.vnode + 1) es d r.3 one (sym (counter_tail e es d.vnode other) ∙ is))
]
  where
    later : Contains es d → Contains (e ∷ es) d
    later c = (suc c.0, omega (arith, c.1), c.2)

-- the entries are the greatest events of the vnodes
pub greatest_entries : (es : List Dot) → AreRising 0 es → (d : Dot) → Contains es d ↔ IsGreatest es d
greatest_entries es r d = (to, from)
  where
    to : Contains es d → IsGreatest es d
    to c = let e : counter es d.vnode ≡ d.n = counter_at 0 es c.0 d r c.1 c.2 in
        ((at_least es c.0 d r c.1 c.2, omega arith), λ x same inside. let f : counter es x.vnode ≡ counter es d.vnode = ap (counter es) same in omega (arith, inside.1))

    from : IsGreatest es d → Contains es d
    from g = let le : counter es d.vnode ≤ d.n = g.1 (record { vnode = d.vnode; n = counter es d.vnode }) refl (omega (arith, g.0.0, g.0.1), omega arith) in
        entry_of 0 es d r g.0.0 (omega (arith, g.0.1))

-- a vnode above all entries counts 0
pub counter_above : (es : List Dot) (v : ℕ) → AllByRecursion (λ e. e.vnode < v) es → counter es v ≡ 0
counter_above [] v below = refl
counter_above (e ∷ es) v below = grind (arith, nat_tests, counter_above es v below.1, below.0)

-- an entry put between lower and higher ones keeps them rising
pub rising_insert : (bound : ℕ) (front back : List Dot) (d : Dot) → AreRising bound (front ++ back) → AllByRecursion (λ e. e.vnode < d.vnode) front → AreRising (d.vnode + 1) back → bound ≤ d.vnode → 1 ≤ d.n → d.n ≤ 2 ^ 62 → AreRising bound (front ++ d ∷ back)
rising_insert bound [] back d r below above le one limit = (le, one, limit, above)
rising_insert bound (e ∷ es) back d r below above le one limit = (r.0, r.1, r.2, rising_insert (e.vnode + 1) es back d r.3 below.1 above (omega (arith, below.0)) one limit)

-- the counters after a further vnode's entry at the end
pub adds_vnode : (es : List Dot) (d : Dot) → AreRising 0 es → AllByRecursion (λ e. e.vnode < d.vnode) es → AddsVnode es (es ++ d ∷ []) d
adds_vnode es d r below x = (to, from)
  where
    none : counter es d.vnode ≡ 0
    none = counter_above es d.vnode below

    to : Covers (es ++ d ∷ []) x → Covers es x ⊎ ((x.vnode ≡ d.vnode) × (1 ≤ x.n) × (x.n ≤ d.n))
    to h = elim (cases_lt 0 (counter es x.vnode)) [
      | inl has ↦ inl (h.0, subst (λ (c : ℕ). x.n ≤ c) (counter-append_left 0 es (d ∷ []) x.vnode r has) h.1)
      | inr absent ↦ elim (cases_eq d.vnode x.vnode) [
        | inl same ↦ inr (sym same, h.0, subst (λ (c : ℕ). x.n ≤ c) (counter-append_right 0 es (d ∷ []) x.vnode r (omega arith) ∙ counter_head d [] x.vnode same) h.1)
        | inr other ↦ absurd (omega (arith, h.0, h.1, counter-append_right 0 es (d ∷ []) x.vnode r (omega arith) ∙ counter_tail d [] x.vnode other))
      ]
    ]

    from : Covers es x ⊎ ((x.vnode ≡ d.vnode) × (1 ≤ x.n) × (x.n ≤ d.n)) → Covers (es ++ d ∷ []) x
    from h = elim h [
      | inl old ↦ (old.0, subst (λ (c : ℕ). x.n ≤ c) (sym (counter-append_left 0 es (d ∷ []) x.vnode r (omega (arith, old.0, old.1)))) old.1)
      | inr more ↦ (more.1, subst (λ (c : ℕ). x.n ≤ c) (sym (counter-append_right 0 es (d ∷ []) x.vnode r (ap (counter es) more.0 ∙ none) ∙ counter_head d [] x.vnode (sym more.0))) more.2)
    ]

-- a clock with room takes a further vnode's entry
pub IsClock-push : (es : List Dot) (d : Dot) → IsClock es → All (λ e. e.vnode < d.vnode) es → 1 ≤ d.n → d.n ≤ 2 ^ 62 → length es < 1024 → IsClock (es ++ d ∷ [])
IsClock-push es d r above one limit room = record {
  rising = rising_insert 0 es [] d (rw append-nil r.rising) (recursion_from_All (λ e. e.vnode < d.vnode) es above) tt (omega arith) one limit;
  few = rw (length-append es (d ∷ [])) (omega arith);
}

-- the counter of one vnode is set, and each other stays
pub record SetsCounter (old new : List Dot) (d : Dot) : Type 0 where
  pub set_to : counter new d.vnode ≡ d.n
  pub others : (x : ℕ) → x ≢ d.vnode → counter new x ≡ counter old x

-- the next event of its vnode is one event more
pub adds_event : (old new : List Dot) (d : Dot) → SetsCounter old new d → d.n ≡ counter old d.vnode + 1 → AddsEvent old new d
adds_event old new d s next x = (to, from)
  where
    to : Covers new x → Covers old x ⊎ (x ≡ d)
    to h = elim (cases_eq x.vnode d.vnode) [
      | inl same ↦ elim (cases_eq x.n d.n) [
        | inl last ↦ inr (same_dot x d same last)
        | inr earlier ↦ inl (h.0, omega (arith, h.1, s.set_to, ap (counter new) same, ap (counter old) same))
      ]
      | inr other ↦ inl (h.0, omega (arith, h.1, s.others x.vnode other))
    ]

    from : Covers old x ⊎ (x ≡ d) → Covers new x
    from h = elim h [
      | inl was ↦ (
        was.0,
        elim (cases_eq x.vnode d.vnode) [
          | inl same ↦ omega (arith, was.1, s.set_to, ap (counter new) same, ap (counter old) same)
          | inr other ↦ omega (arith, was.1, s.others x.vnode other)
        ],
      )
      | inr is ↦ let n : x.n ≡ d.n = ap (λ (y : Dot). y.n) is in let v : counter new x.vnode ≡ counter new d.vnode = ap (λ (y : Dot). counter new y.vnode) is in (omega arith, omega (arith, s.set_to))
    ]

-- a place in the rest
place_rest : (e : Dot) (es : List Dot) (p v : ℕ) → IsPlaceOf (e ∷ es) (suc p) v → IsPlaceOf es p v
place_rest e es p v i = record { inside = omega (arith, i.inside); lower = i.lower.1; here = i.here }

pub counter_place : (es : List Dot) (p v : ℕ) → IsPlaceOf es p v → counter es v ≡ (get_or es p (record { vnode = 0; n = 0 })).n
counter_place [] p v i = absurd (omega (arith, i.inside))
counter_place (e ∷ es) zero v i = counter_head e es v i.here
counter_place (e ∷ es) (suc p) v i = let ne : e.vnode ≢ v = omega (arith, i.lower.0) in counter_tail e es v ne ∙ counter_place es p v (place_rest e es p v i)

pub place_first : (bound : ℕ) (es : List Dot) (p v : ℕ) → AreRising bound es → IsPlaceOf es p v → 1 ≤ (get_or es p (record { vnode = 0; n = 0 })).n
place_first bound [] p v r i = absurd (omega (arith, i.inside))
place_first bound (e ∷ es) zero v r i = r.1
place_first bound (e ∷ es) (suc p) v r i = place_first (e.vnode + 1) es p v r.3 (place_rest e es p v i)

-- a later event written over it
pub rising_set : (bound : ℕ) (es : List Dot) (p : ℕ) (d : Dot) → AreRising bound es → IsPlaceOf es p d.vnode → 1 ≤ d.n → d.n ≤ 2 ^ 62 → AreRising bound (set es p d)
rising_set bound [] p d r i one limit = tt
rising_set bound (e ∷ es) zero d r i one limit = (omega (arith, i.here, r.0), one, limit, rising_lower (d.vnode + 1) (e.vnode + 1) es (omega (arith, i.here)) r.3)
rising_set bound (e ∷ es) (suc p) d r i one limit = (r.0, r.1, r.2, rising_set (e.vnode + 1) es p d r.3 (place_rest e es p d.vnode i) one limit)

pub sets_counter-set : (es : List Dot) (p : ℕ) (d : Dot) → IsPlaceOf es p d.vnode → SetsCounter es (set es p d) d
sets_counter-set [] p d i = absurd (omega (arith, i.inside))
sets_counter-set (e ∷ es) zero d i = record {
  set_to = counter_head d es d.vnode refl;
  others = λ x ne. let a : d.vnode ≢ x = omega arith in let b : e.vnode ≢ x = omega (arith, i.here) in counter_tail d es x a ∙ sym (counter_tail e es x b);
}
sets_counter-set (e ∷ es) (suc p) d i = let rest : SetsCounter es (set es p d) d = sets_counter-set es p d (place_rest e es p d.vnode i) in let ne : e.vnode ≢ d.vnode = omega (arith, i.lower.0) in record {
  set_to = counter_tail e (set es p d) d.vnode ne ∙ rest.set_to;
  others = λ x other. elim (cases_eq e.vnode x) [
    | inl same ↦ counter_head e (set es p d) x same ∙ sym (counter_head e es x same)
    | inr diff ↦ counter_tail e (set es p d) x diff ∙ rest.others x other ∙ sym (counter_tail e es x diff)
  ];
}

gap_rest : (e : Dot) (es : List Dot) (p v : ℕ) → IsGapFor (e ∷ es) (suc p) v → IsGapFor es p v
gap_rest e es p v g = record { within = omega (arith, g.within); lower = g.lower.1; higher = λ lt. g.higher (omega arith) }

pub counter_gap : (bound : ℕ) (es : List Dot) (p v : ℕ) → AreRising bound es → IsGapFor es p v → counter es v ≡ 0
counter_gap bound [] p v r g = refl
counter_gap bound (e ∷ es) zero v r g = let lt : v < e.vnode = g.higher (omega arith) in let ne : e.vnode ≢ v = omega arith in counter_tail e es v ne ∙ counter_below (e.vnode + 1) es v r.3 (omega arith)
counter_gap bound (e ∷ es) (suc p) v r g = let ne : e.vnode ≢ v = omega (arith, g.lower.0) in counter_tail e es v ne ∙ counter_gap (e.vnode + 1) es p v r.3 (gap_rest e es p v g)

pub rising_gap : (bound : ℕ) (es : List Dot) (p : ℕ) (d : Dot) → AreRising bound es → IsGapFor es p d.vnode → bound ≤ d.vnode → 1 ≤ d.n → d.n ≤ 2 ^ 62 → AreRising bound (take p es ++ d ∷ drop p es)
rising_gap bound [] zero d r g le one limit = (le, one, limit, tt)
rising_gap bound [] (suc p) d r g le one limit = (le, one, limit, tt)
rising_gap bound (e ∷ es) zero d r g le one limit = let lt : d.vnode < e.vnode = g.higher (omega arith) in (le, one, limit, (omega arith, r.1, r.2, r.3))
rising_gap bound (e ∷ es) (suc p) d r g le one limit = (r.0, r.1, r.2, rising_gap (e.vnode + 1) es p d r.3 (gap_rest e es p d.vnode g) (omega (arith, g.lower.0)) one limit)

pub sets_counter-insert : (es : List Dot) (p : ℕ) (d : Dot) → IsGapFor es p d.vnode → SetsCounter es (take p es ++ d ∷ drop p es) d
sets_counter-insert [] zero d g = record { set_to = counter_head d [] d.vnode refl; others = λ x ne. let a : d.vnode ≢ x = omega arith in counter_tail d [] x a }
sets_counter-insert [] (suc p) d g = record { set_to = counter_head d [] d.vnode refl; others = λ x ne. let a : d.vnode ≢ x = omega arith in counter_tail d [] x a }
sets_counter-insert (e ∷ es) zero d g = record { set_to = counter_head d (e ∷ es) d.vnode refl; others = λ x ne. let a : d.vnode ≢ x = omega arith in counter_tail d (e ∷ es) x a }
sets_counter-insert (e ∷ es) (suc p) d g = let rest : SetsCounter es (take p es ++ d ∷ drop p es) d = sets_counter-insert es p d (gap_rest e es p d.vnode g) in let ne : e.vnode ≢ d.vnode = omega (arith, g.lower.0) in record {
  set_to = counter_tail e (take p es ++ d ∷ drop p es) d.vnode ne ∙ rest.set_to;
  others = λ x other. elim (cases_eq e.vnode x) [
    | inl same ↦ counter_head e (take p es ++ d ∷ drop p es) x same ∙ sym (counter_head e es x same)
    | inr diff ↦ counter_tail e (take p es ++ d ∷ drop p es) x diff ∙ rest.others x other ∙ sym (counter_tail e es x diff)
  ];
}

pub IsClock-set : (es : List Dot) (p : ℕ) (d : Dot) → IsClock es → IsPlaceOf es p d.vnode → 1 ≤ d.n → d.n ≤ 2 ^ 62 → IsClock (set es p d)
IsClock-set es p d r i one limit = record { rising = rising_set 0 es p d r.rising i one limit; few = rw (length-set es p d) r.few }

pub IsClock-insert : (es : List Dot) (p : ℕ) (d : Dot) → IsClock es → IsGapFor es p d.vnode → 1 ≤ d.n → d.n ≤ 2 ^ 62 → length es < 1024 → IsClock (take p es ++ d ∷ drop p es)
IsClock-insert es p d r g one limit room = record { rising = rising_gap 0 es p d r.rising g (omega arith) one limit; few = simp (length-append, length-take, length-drop) (omega (arith, r.few, g.within)) }

-- the greater counters count the union
pub union_covers : (own other union : List Dot) → ((v : ℕ) → counter union v ≡ max (counter own v) (counter other v)) → IsUnion own other union
union_covers own other union greater d = (
  λ h. elim (cases_lt (counter own d.vnode) d.n) [ inl low ↦ inr (h.0, omega (arith, h.1, greater d.vnode)) | inr high ↦ inl (h.0, high) ],
  λ h. elim h [ inl a ↦ (a.0, omega (arith, a.1, greater d.vnode)) | inr b ↦ (b.0, omega (arith, b.1, greater d.vnode)) ],
)

-- the count of the fields is that of the clocks
pub same_count : {a b x y : List Dot} → a ≡ x → b ≡ y → vnodes_together a b ≡ vnodes_together x y
same_count {b = b} {x = x} p q = ap (λ (es : List Dot). vnodes_together es b) p ∙ ap (λ (es : List Dot). vnodes_together x es) q
