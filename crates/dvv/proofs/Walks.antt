-- Two clocks walked side by side, vnode by vnode.
use Rattle.std.proofs.Common.{◌≡◌, ℕ, ◌+◌, ◌<◌, ◌≤◌, ◌⊎◌, ◌≢◌, cond, List, [], ◌∷◌, ◌++◌, length, get_or, refl, sym, ap, subst, ◌∙◌, inl, inr, arith}
use Rattle.std.specs.Prelude.{◌==◌, max, count_by}
use Rattle.std.specs.List.{AllByRecursion}
use Rattle.std.proofs.Common.{append-nil}
use Rattle.std.proofs.lemmas.Bool.{cases_lt, cases_eq, eq-eqb, ne_eqb}
use Rattle.std.proofs.lemmas.Bool.Decides.{nat_tests}
use Rattle.std.proofs.lemmas.List.Sums.{sum_by-cons}
use Rattle.dvv.specs.declared.Dot.{Dot}
use Rattle.dvv.specs.Clock.{counter, Covers, Within, AreRising, IsClock, IsNextVnode, after_vnode, vnodes_together}
use Rattle.dvv.proofs.Clocks.{counter_head, counter_tail, counter_below, counter_above, counter_limit, counter-append_left, counter-append_right, rising_lower, rising_insert}

after_head : (v : ℕ) (e : Dot) (es : List Dot) → e.vnode ≡ v → after_vnode v (e ∷ es) ≡ es
after_head v e es same = grind (arith, nat_tests)

after_tail : (v : ℕ) (e : Dot) (es : List Dot) → e.vnode ≢ v → after_vnode v (e ∷ es) ≡ e ∷ es
after_tail v e es other = grind (arith, nat_tests)

-- what follows a vnode is above it
after_rising : (v : ℕ) (es : List Dot) → AreRising v es → AreRising (v + 1) (after_vnode v es)
after_rising v [] r = tt
after_rising v (e ∷ es) r = elim (cases_eq e.vnode v) [
  | inl same ↦ rw (after_head v e es same) (rising_lower (v + 1) (e.vnode + 1) es (omega arith) r.3)
  | inr other ↦ rw (after_tail v e es other) (omega (arith, r.0), r.1, r.2, r.3)
]

-- and counts the others as before
counter_after : (v w : ℕ) (es : List Dot) → v ≢ w → counter (after_vnode v es) w ≡ counter es w
counter_after v w [] ne = refl
counter_after v w (e ∷ es) ne = elim (cases_eq e.vnode v) [
  | inl same ↦ let other : e.vnode ≢ w = omega arith in rw (after_head v e es same) (sym (counter_tail e es w other))
  | inr other ↦ rw (after_tail v e es other) refl
]

-- how many entries a vnode has, none or one
ones : ℕ → ℕ
ones n = cond (n == 0) 0 1

ones_none : (n : ℕ) → n ≡ 0 → ones n ≡ 0
unfolding ones
ones_none n none = rw (eq-eqb n 0 none) refl

ones_some : (n : ℕ) → 1 ≤ n → ones n ≡ 1
unfolding ones
ones_some n some = let ne : n ≢ 0 = omega arith in rw (ne_eqb n 0 ne) refl

-- a vnode below all entries but perhaps the first
counter_first : (v : ℕ) (e : Dot) (es : List Dot) → AreRising v (e ∷ es) → e.vnode ≢ v → counter (e ∷ es) v ≡ 0
counter_first v e es r other = counter_tail e es v other ∙ counter_below (e.vnode + 1) es v r.3 (omega (arith, r.0))

length_after : (v : ℕ) (es : List Dot) → AreRising v es → length es ≡ length (after_vnode v es) + ones (counter es v)
length_after v [] r = omega (arith, ones_none 0 refl)
length_after v (e ∷ es) r = elim (cases_eq e.vnode v) [
  | inl same ↦ rw (after_head v e es same) (omega (arith, ones_some (counter (e ∷ es) v) (omega (arith, counter_head e es v same, r.1))))
  | inr other ↦ rw (after_tail v e es other) (omega (arith, ones_none (counter (e ∷ es) v) (counter_first v e es r other)))
]

-- how many of the entries are of vnodes that a clock doesn't count
fresh : List Dot → List Dot → ℕ
fresh own other = count_by (λ entry. counter own entry.vnode == 0) other

fresh_one : ℕ → ℕ
fresh_one n = cond (n == 0) 1 0

fresh-cons : (own : List Dot) (e : Dot) (es : List Dot) → fresh own (e ∷ es) ≡ fresh_one (counter own e.vnode) + fresh own es
unfolding fresh fresh_one
fresh-cons own e es = sum_by-cons (λ entry. cond (counter own entry.vnode == 0) 1 0) e es

fresh_one_none : (n : ℕ) → n ≡ 0 → fresh_one n ≡ 1
unfolding fresh_one
fresh_one_none n none = rw (eq-eqb n 0 none) refl

fresh_one_some : (n : ℕ) → 1 ≤ n → fresh_one n ≡ 0
unfolding fresh_one
fresh_one_some n some = let ne : n ≢ 0 = omega arith in rw (ne_eqb n 0 ne) refl

-- above a vnode it makes no difference that it is gone
fresh_above : (v bound : ℕ) (own es : List Dot) → v < bound → AreRising bound es → fresh own es ≡ fresh (after_vnode v own) es
unfolding fresh
fresh_above v bound own [] lt r = refl
fresh_above v bound own (e ∷ es) lt r =
    let here : counter own e.vnode ≡ counter (after_vnode v own) e.vnode = sym (counter_after v e.vnode own (omega (arith, r.0))) in
    fresh-cons own e es ∙ (ap (λ n. fresh_one n + fresh own es) here ∙ (ap (λ n. fresh_one (counter (after_vnode v own) e.vnode) + n) (fresh_above v (e.vnode + 1) own es (omega (arith, r.0)) r.3) ∙ sym (fresh-cons (after_vnode v own) e es)))

-- a vnode that only the other side counts is fresh
fresh_here : (v : ℕ) (own other : List Dot) → AreRising v other → (1 ≤ counter own v) ⊎ (1 ≤ counter other v) → fresh own other + ones (counter own v) ≡ fresh own (after_vnode v other) + 1
fresh_here v own [] r some = elim some [ inl here ↦ omega (arith, ones_some (counter own v) here) | inr there ↦ absurd (omega arith) ]
fresh_here v own (e ∷ es) r some = elim (cases_eq e.vnode v) [
  | inl same ↦ rw (after_head v e es same) (elim (cases_lt 0 (counter own v)) [
    | inl here ↦ omega (arith, fresh-cons own e es, ap (λ w. fresh_one (counter own w)) same, fresh_one_some (counter own v) here, ones_some (counter own v) here)
    | inr none ↦ let zero_here : counter own v ≡ 0 = omega arith in omega (arith, fresh-cons own e es, ap (λ w. fresh_one (counter own w)) same, fresh_one_none (counter own v) zero_here, ones_none (counter own v) zero_here)
  ])
  | inr other ↦ rw (after_tail v e es other) (elim some [
    | inl here ↦ omega (arith, ones_some (counter own v) here)
    | inr there ↦ absurd (omega (arith, counter_first v e es r other))
  ])
]

together_is : (own other : List Dot) → vnodes_together own other ≡ length own + fresh own other
unfolding fresh
together_is own other = refl

-- one vnode less on both sides
pub together_after : (v : ℕ) (own other : List Dot) → AreRising v own → AreRising v other → (1 ≤ counter own v) ⊎ (1 ≤ counter other v) → vnodes_together own other ≡ vnodes_together (after_vnode v own) (after_vnode v other) + 1
together_after v own other own_from other_from some =
    let less : AreRising (v + 1) (after_vnode v other) = after_rising v other other_from in
    omega (arith, together_is own other, together_is (after_vnode v own) (after_vnode v other), length_after v own own_from, fresh_here v own other other_from some, fresh_above v (v + 1) own (after_vnode v other) (omega arith) less)

-- what is left of two clocks where the vnodes below a bound are walked
pub record IsLeft (bound : ℕ) (own other own_left other_left : List Dot) : Type 0 where
  pub own_rising : AreRising bound own_left
  pub other_rising : AreRising bound other_left
  pub own_same : (v : ℕ) → bound ≤ v → counter own_left v ≡ counter own v
  pub other_same : (v : ℕ) → bound ≤ v → counter other_left v ≡ counter other v

-- at first all is left
pub left_all : (own other : List Dot) → AreRising 0 own → AreRising 0 other → IsLeft 0 own other own other
left_all own other own_rising other_rising = record { own_rising = own_rising; other_rising = other_rising; own_same = λ v le. refl; other_same = λ v le. refl }

-- the next vnode is the lowest of those left, with the counters of both
pub record IsStep (bound : ℕ) (own other own_rest other_rest : List Dot) (v m n : ℕ) : Type 0 where
  pub above : bound ≤ v
  pub left : IsLeft (v + 1) own other own_rest other_rest
  pub own_counts : m ≡ counter own v
  pub other_counts : n ≡ counter other v
  pub none_between : (w : ℕ) → bound ≤ w → w < v → (counter own w ≡ 0) × (counter other w ≡ 0)

pub next_step : (bound : ℕ) (own other own_left other_left : List Dot) (v m n : ℕ) (own_rest other_rest : List Dot) → IsLeft bound own other own_left other_left → IsNextVnode own_left other_left v m n own_rest other_rest → IsStep bound own other own_rest other_rest v m n
next_step bound own other own_left other_left v m n own_rest other_rest left next = record {
  above = above;
  left = record {
    own_rising = subst (AreRising (v + 1)) (sym next.own_after) (after_rising v own_left next.own_from);
    other_rising = subst (AreRising (v + 1)) (sym next.other_after) (after_rising v other_left next.other_from);
    own_same = λ w le. ap (λ es. counter es w) next.own_after ∙ (counter_after v w own_left (omega arith) ∙ left.own_same w (omega (arith, above, le)));
    other_same = λ w le. ap (λ es. counter es w) next.other_after ∙ (counter_after v w other_left (omega arith) ∙ left.other_same w (omega (arith, above, le)));
  };
  own_counts = next.own_counts ∙ left.own_same v above;
  other_counts = next.other_counts ∙ left.other_same v above;
  none_between = λ w le lt. (sym (left.own_same w le) ∙ counter_below v own_left w next.own_from lt, sym (left.other_same w le) ∙ counter_below v other_left w next.other_from lt);
}
  where
    above : bound ≤ v
    above = elim (cases_lt v bound) [
      | inl low ↦ absurd (elim next.some [
        | inl here ↦ omega (arith, here, next.own_counts, counter_below bound own_left v left.own_rising low)
        | inr there ↦ omega (arith, there, next.other_counts, counter_below bound other_left v left.other_rising low)
      ])
      | inr high ↦ high
    ]

-- the vnodes below a bound count no more here than there
pub AreBelow : ℕ → List Dot → List Dot → Type 0
AreBelow bound small large = (v : ℕ) → v < bound → counter small v ≤ counter large v

pub below_none : (small large : List Dot) → AreBelow 0 small large
unfolding AreBelow
below_none small large v lt = absurd (omega arith)

pub below_next : (bound : ℕ) (own other own_rest other_rest : List Dot) (v m n : ℕ) → IsStep bound own other own_rest other_rest v m n → AreBelow bound own other → m ≤ n → AreBelow (v + 1) own other
unfolding AreBelow
below_next bound own other own_rest other_rest v m n step below le w lt = elim (cases_lt w bound) [
  | inl low ↦ below w low
  | inr high ↦ elim (cases_lt w v) [
    | inl between ↦ omega (arith, (step.none_between w high between).0)
    | inr not_lower ↦ let same : w ≡ v = omega arith in omega (arith, ap (counter own) same, ap (counter other) same, step.own_counts, step.other_counts)
  ]
]

-- where nothing is left one lies within the other
pub below_all : (bound : ℕ) (own other own_left other_left : List Dot) → IsLeft bound own other own_left other_left → AreBelow bound own other → own_left ≡ [] → Within own other
unfolding AreBelow
below_all bound own other own_left other_left left below none d covered = (
  covered.0,
  elim (cases_lt d.vnode bound) [
    | inl low ↦ omega (arith, covered.1, below d.vnode low)
    | inr high ↦ absurd (omega (arith, covered.0, covered.1, left.own_same d.vnode high, ap (λ es. counter es d.vnode) none))
  ],
)

-- where a vnode counts more here, it doesn't
pub not_within : (own other : List Dot) (v : ℕ) → counter other v < counter own v → Within own other → ⊥
not_within own other v more within = let there : Covers other (record { vnode = v; n = counter own v }) = within (record { vnode = v; n = counter own v }) (omega arith, omega arith) in omega (arith, there.1)

-- a union as far as the walk has come
pub record IsJoined (bound : ℕ) (own other union : List Dot) : Type 0 where
  pub rising : AreRising 0 union
  pub lower : AllByRecursion (λ entry. entry.vnode < bound) union
  pub greater : (v : ℕ) → v < bound → counter union v ≡ max (counter own v) (counter other v)

pub joined_none : (own other : List Dot) → IsJoined 0 own other []
joined_none own other = record { rising = tt; lower = tt; greater = λ v lt. absurd (omega arith) }

-- entries below one bound are below a higher one, and so is one more
lower_push : (low high : ℕ) (es : List Dot) (d : Dot) → low ≤ high → d.vnode < high → AllByRecursion (λ entry. entry.vnode < low) es → AllByRecursion (λ entry. entry.vnode < high) (es ++ d ∷ [])
lower_push low high [] d le lt all = (lt, tt)
lower_push low high (e ∷ es) d le lt all = (omega (arith, all.0), lower_push low high es d le lt all.1)

lower_raise : (low high : ℕ) (es : List Dot) → low ≤ high → AllByRecursion (λ entry. entry.vnode < low) es → AllByRecursion (λ entry. entry.vnode < high) es
lower_raise low high [] le all = tt
lower_raise low high (e ∷ es) le all = (omega (arith, all.0), lower_raise low high es le all.1)

-- an entry above all there counts its own vnode
pushed_same : (es : List Dot) (d : Dot) → AreRising 0 es → AllByRecursion (λ e. e.vnode < d.vnode) es → counter (es ++ d ∷ []) d.vnode ≡ d.n
pushed_same es d r lower = counter-append_right 0 es (d ∷ []) d.vnode r (counter_above es d.vnode lower) ∙ counter_head d [] d.vnode refl

pushed_other : (es : List Dot) (d : Dot) (w : ℕ) → AreRising 0 es → w ≢ d.vnode → counter (es ++ d ∷ []) w ≡ counter es w
pushed_other es d w r ne = elim (cases_lt 0 (counter es w)) [
  | inl some ↦ counter-append_left 0 es (d ∷ []) w r some
  | inr none ↦ let no : counter es w ≡ 0 = omega arith in let ne' : d.vnode ≢ w = omega arith in counter-append_right 0 es (d ∷ []) w r no ∙ (counter_tail d [] w ne' ∙ sym no)
]

pub joined_next : (bound : ℕ) (own other own_rest other_rest union : List Dot) (v m n greatest : ℕ) → IsClock own → IsClock other → IsStep bound own other own_rest other_rest v m n → (1 ≤ m) ⊎ (1 ≤ n) → greatest ≡ max m n → IsJoined bound own other union → IsJoined (v + 1) own other (union ++ (record { vnode = v; n = greatest }) ∷ [])
joined_next bound own other own_rest other_rest union v m n greatest own_clock other_clock step some is joined = record {
  rising = rising_insert 0 union [] d (rw append-nil joined.rising) below tt (omega arith) first (omega (arith, is, step.own_counts, step.other_counts, counter_limit 0 own v own_clock.rising, counter_limit 0 other v other_clock.rising));
  lower = lower_push bound (v + 1) union d (omega (arith, step.above)) (omega arith) joined.lower;
  greater = greater;
}
  where
    d : Dot
    d = record { vnode = v; n = greatest }

    first : 1 ≤ greatest
    first = elim some [ inl here ↦ omega (arith, is) | inr there ↦ omega (arith, is) ]

    below : AllByRecursion (λ e. e.vnode < v) union
    below = lower_raise bound v union step.above joined.lower

    greater : (w : ℕ) → w < v + 1 → counter (union ++ d ∷ []) w ≡ max (counter own w) (counter other w)
    greater w lt = elim (cases_lt w v) [
      | inl under ↦ pushed_other union d w joined.rising (omega arith) ∙ elim (cases_lt w bound) [
        | inl low ↦ joined.greater w low
        | inr high ↦ let zeros : (counter own w ≡ 0) × (counter other w ≡ 0) = step.none_between w high under in omega (arith, zeros.0, zeros.1, counter_above union w (lower_raise bound w union high joined.lower))
      ]
      | inr not_lower ↦ let same : w ≡ v = omega arith in omega (arith, ap (counter (union ++ d ∷ [])) same, ap (counter own) same, ap (counter other) same, pushed_same union d joined.rising below, is, step.own_counts, step.other_counts)
    ]

-- where nothing is left it is the union
pub joined_all : (bound : ℕ) (own other own_left other_left union : List Dot) → IsLeft bound own other own_left other_left → IsJoined bound own other union → own_left ≡ [] → other_left ≡ [] → (v : ℕ) → counter union v ≡ max (counter own v) (counter other v)
joined_all bound own other own_left other_left union left joined own_none other_none v = elim (cases_lt v bound) [
  | inl low ↦ joined.greater v low
  | inr high ↦ omega (arith, left.own_same v high, left.other_same v high, ap (λ es. counter es v) own_none, ap (λ es. counter es v) other_none, counter_above union v (lower_raise bound v union high joined.lower))
]

module _ (own other : List Dot) (v m n : ℕ) (own_rest other_rest : List Dot) (next : IsNextVnode own other v m n own_rest other_rest) where
  some_here : (1 ≤ counter own v) ⊎ (1 ≤ counter other v)
  some_here = elim next.some [ inl here ↦ inl (omega (arith, next.own_counts)) | inr there ↦ inr (omega (arith, next.other_counts)) ]

  -- the measure of a walk falls
  pub walk_falls : length own_rest + length other_rest < length own + length other
  walk_falls = rw (next.own_after, next.other_after) (elim some_here [
    | inl here ↦ omega (arith, length_after v own next.own_from, length_after v other next.other_from, ones_some (counter own v) here)
    | inr there ↦ omega (arith, length_after v own next.own_from, length_after v other next.other_from, ones_some (counter other v) there)
  ])

  -- one vnode less is left
  pub walk_counts : vnodes_together own other ≡ vnodes_together own_rest other_rest + 1
  walk_counts = rw (next.own_after, next.other_after) (together_after v own other next.own_from next.other_from some_here)

  pub walk_own : AreRising 0 own_rest
  walk_own = rw next.own_after (rising_lower 0 (v + 1) _ (omega arith) (after_rising v own next.own_from))

  pub walk_other : AreRising 0 other_rest
  walk_other = rw next.other_after (rising_lower 0 (v + 1) _ (omega arith) (after_rising v other next.other_from))

-- no first entry of the vnode
pub counter_no_first : (v : ℕ) (es : List Dot) (d : Dot) → AreRising v es → (0 < length es → (get_or es 0 d).vnode ≢ v) → counter es v ≡ 0
counter_no_first v [] d r differs = refl
counter_no_first v (e ∷ es) d r differs = counter_first v e es r (differs (omega arith))
