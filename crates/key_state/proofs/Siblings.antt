-- Siblings in order: what a filter and an insertion leave.
use Rattle.std.proofs.Common.{◌≡◌, ◌≢◌, ℕ, zero, suc, ◌+◌, ◌<◌, ◌≤◌, ◌⊎◌, Bool, true, false, cond, List, [], ◌∷◌, ◌++◌, length, get_or, take, drop, Option, Some, None, refl, sym, ap, subst, ◌∙◌, inl, inr, arith}
use Rattle.std.specs.Prelude.{filter, not}
use Rattle.std.specs.List.{AllByRecursion}
use Rattle.std.proofs.lemmas.List.Elements.{recursion_from_All, All-from_recursion, All-more}
use Rattle.std.proofs.lemmas.List.Filters.{length-filter_both}
use Rattle.std.proofs.lemmas.Bool.{cases_eq, cases_order, cases_Bool, and_parts, and_from, eq-eqb, eqb-true, le-leb, leb-true, both_ways}
use Rattle.dvv.specs.declared.Dot.{Dot}
use Rattle.dvv.specs.Clock.{Covers, covers, counter, AddsEvent, IsClock}
use Rattle.key_state.specs.declared.content.Content.{Content}
use Rattle.key_state.specs.declared.content.Sibling.{Sibling}
use Rattle.key_state.specs.State.{State, content_at, is_dot, kept, IsBefore, AreInOrder, AreCovered, IsState, Puts}
use Rattle.key_state.specs.Placing.{IsSiblingGap, InsertsSibling, ReplacesSeen}

pub same_dot : (a b : Dot) → a.vnode ≡ b.vnode → a.n ≡ b.n → a ≡ b
same_dot a b v n = ap (λ (x : ℕ). let d : Dot = record { vnode = x; n = a.n } in d) v ∙ ap (λ (x : ℕ). let d : Dot = record { vnode = b.vnode; n = x } in d) n

-- the test of a clock tells its set
pub covers_true : (c : List Dot) (d : Dot) → covers c d ≡ true → Covers c d
covers_true c d t = let p = and_parts _ _ t in (leb-true _ _ p.0, leb-true _ _ p.1)

pub true_covers : (c : List Dot) (d : Dot) → Covers c d → covers c d ≡ true
true_covers c d h = and_from _ _ (le-leb _ _ h.0) (le-leb _ _ h.1)

pub covers_false : (c : List Dot) (d : Dot) → covers c d ≡ false → Covers c d → ⊥
covers_false c d f h = both_ways _ f (true_covers c d h)

-- dots are one or apart
pub cases_dot : (a b : Dot) → (a ≡ b) ⊎ (a ≢ b)
cases_dot a b = elim (cases_eq a.vnode b.vnode) [
  | inl v ↦ elim (cases_eq a.n b.n) [
    | inl n ↦ inl (same_dot a b v n)
    | inr n ↦ inr (λ e. n (ap (λ (d : Dot). d.n) e))
  ]
  | inr v ↦ inr (λ e. v (ap (λ (d : Dot). d.vnode) e))
]

-- the test on dots tells that they are one
pub is_dot-true : (a b : Dot) → is_dot a b ≡ true → a ≡ b
is_dot-true a b t = let p = and_parts _ _ t in same_dot a b (eqb-true _ _ p.0) (eqb-true _ _ p.1)

pub is_dot-same : (a b : Dot) → a ≡ b → is_dot a b ≡ true
is_dot-same a b e = and_from _ _ (eq-eqb _ _ (ap (λ (d : Dot). d.vnode) e)) (eq-eqb _ _ (ap (λ (d : Dot). d.n) e))

pub is_dot-other : (a b : Dot) → a ≢ b → is_dot a b ≡ false
is_dot-other a b ne = elim (cases_Bool (is_dot a b)) [ inl t ↦ absurd (ne (is_dot-true a b t)) | inr f ↦ f ]

-- what holds of each holds of those that a filter keeps
pub each_kept : {X : Type 0} (P : X → Type 0) (p : X → Bool) (xs : List X) → AllByRecursion P xs → AllByRecursion P (filter p xs)
each_kept P p [] each = tt
each_kept P p (x ∷ xs) each = go (each_kept P p xs each.1) (p x)
  where
    go : AllByRecursion P (filter p xs) → (b : Bool) → AllByRecursion P (cond b (x ∷ filter p xs) (filter p xs))
    go rest true = (each.0, rest)
    go rest false = rest

-- no more siblings are kept than there are
pub kept_few : (seen : List Dot) (xs : List Sibling) → length (kept seen xs) ≤ length xs
kept_few seen xs = omega (arith, length-filter_both (λ s. not (covers seen s.dot)) (λ s. not (not (covers seen s.dot))) (λ s. refl) xs)

pub in_order_kept : (p : Sibling → Bool) (xs : List Sibling) → AreInOrder xs → AreInOrder (filter p xs)
in_order_kept p [] order = tt
in_order_kept p (x ∷ xs) order = go (in_order_kept p xs order.1) (p x)
  where
    go : AreInOrder (filter p xs) → (b : Bool) → AreInOrder (cond b (x ∷ filter p xs) (filter p xs))
    go rest true = (each_kept (λ s. IsBefore x.dot s.dot) p xs order.0, rest)
    go rest false = rest

-- what the siblings that a context doesn't cover have at a dot
pub content_at-kept : (seen : List Dot) (xs : List Sibling) (d : Dot) → content_at (kept seen xs) d ≡ cond (covers seen d) None (content_at xs d)
content_at-kept seen [] d = go (covers seen d)
  where
    go : (b : Bool) → None ≡ cond b None (let o : Option Content = None in o)
    go true = refl
    go false = refl
content_at-kept seen (x ∷ xs) d = go (content_at-kept seen xs d) (covers seen x.dot) (is_dot x.dot d) refl refl
  where
    go : content_at (kept seen xs) d ≡ cond (covers seen d) None (content_at xs d) → (b q : Bool) → covers seen x.dot ≡ b → is_dot x.dot d ≡ q → content_at (cond (not b) (x ∷ kept seen xs) (kept seen xs)) d ≡ cond (covers seen d) None (cond q (Some x.content) (content_at xs d))
    go rest true true e f = rest ∙ (let t : covers seen d ≡ true = ap (covers seen) (sym (is_dot-true x.dot d f)) ∙ e in rw t refl)
    go rest true false e f = rest
    go rest false true e f = let t : covers seen d ≡ false = ap (covers seen) (sym (is_dot-true x.dot d f)) ∙ e in rw (f, t) refl
    go rest false false e f = rw f rest

-- dots in order are apart
pub before_other : (a b : Dot) → IsBefore a b → a ≢ b
before_other a b (inl v) e = omega (arith, ap (λ (d : Dot). d.vnode) e)
before_other a b (inr n) e = omega (arith, ap (λ (d : Dot). d.n) e, n.1)

pub before_trans : (a b c : Dot) → IsBefore a b → IsBefore b c → IsBefore a c
before_trans a b c (inl v) (inl w) = inl (omega arith)
before_trans a b c (inl v) (inr w) = inl (omega (arith, w.0))
before_trans a b c (inr v) (inl w) = inl (omega (arith, v.0))
before_trans a b c (inr v) (inr w) = inr (v.0 ∙ w.0, omega (arith, v.1, w.1))

pub not_before : (a b : Dot) → (IsBefore a b → ⊥) → a ≢ b → IsBefore b a
not_before a b no' ne = elim (cases_order a.vnode b.vnode) [
  | inl same ↦ elim (cases_order a.n b.n) [
    | inl n ↦ absurd (ne (same_dot a b same n))
    | inr (inl lt) ↦ absurd (no' (inr (same, lt)))
    | inr (inr gt) ↦ inr (sym same, gt)
  ]
  | inr (inl lt) ↦ absurd (no' (inl lt))
  | inr (inr gt) ↦ inl gt
]

-- a sibling put into its gap
pub inserts : (xs : List Sibling) (p : ℕ) (s : Sibling) → AreInOrder xs → IsSiblingGap xs p s.dot → InsertsSibling xs (take p xs ++ s ∷ drop p xs) s
inserts xs p s order gap = record { in_order = in_order xs p order gap; content = content xs p gap; covered = λ clock old new. covered clock xs p old new }
  where
    later : (y : Sibling) (ys : List Sibling) (q : ℕ) → IsSiblingGap (y ∷ ys) (suc q) s.dot → IsSiblingGap ys q s.dot
    later y ys q g = record { within = omega (arith, g.within); lower = g.lower.1; higher = g.higher }

    joined : (P : Sibling → Type 0) (ys : List Sibling) (q : ℕ) → AllByRecursion P ys → P s → AllByRecursion P (take q ys ++ s ∷ drop q ys)
    joined P [] zero each one = (one, tt)
    joined P [] (suc q) each one = (one, tt)
    joined P (y ∷ ys) zero each one = (one, (each.0, each.1))
    joined P (y ∷ ys) (suc q) each one = (each.0, joined P ys q each.1 one)

    in_order : (ys : List Sibling) (q : ℕ) → AreInOrder ys → IsSiblingGap ys q s.dot → AreInOrder (take q ys ++ s ∷ drop q ys)
    in_order [] zero o g = (tt, tt)
    in_order [] (suc q) o g = (tt, tt)
    in_order (y ∷ ys) zero o g = (g.higher, (o.0, o.1))
    in_order (y ∷ ys) (suc q) o g = (joined (λ t. IsBefore y.dot t.dot) ys q o.0 g.lower.0, in_order ys q o.1 (later y ys q g))

    covered : (clock : List Dot) (ys : List Sibling) (q : ℕ) → AreCovered clock ys → Covers clock s.dot → AreCovered clock (take q ys ++ s ∷ drop q ys)
    covered clock ys q each one = joined (λ t. Covers clock t.dot) ys q each one

    content : (ys : List Sibling) (q : ℕ) → IsSiblingGap ys q s.dot → (d : Dot) → content_at (take q ys ++ s ∷ drop q ys) d ≡ cond (is_dot s.dot d) (Some s.content) (content_at ys d)
    content [] zero g d = refl
    content [] (suc q) g d = refl
    content (y ∷ ys) zero g d = refl
    content (y ∷ ys) (suc q) g d = go (content ys q (later y ys q g) d) (is_dot y.dot d) (is_dot s.dot d) refl refl
      where
        go : content_at (take q ys ++ s ∷ drop q ys) d ≡ cond (is_dot s.dot d) (Some s.content) (content_at ys d) → (a b : Bool) → is_dot y.dot d ≡ a → is_dot s.dot d ≡ b → cond a (Some y.content) (content_at (take q ys ++ s ∷ drop q ys) d) ≡ cond b (Some s.content) (cond a (Some y.content) (content_at ys d))
        go rest true true ea eb = absurd (before_other y.dot s.dot g.lower.0 (is_dot-true y.dot d ea ∙ sym (is_dot-true s.dot d eb)))
        go rest true false ea eb = refl
        go rest false true ea eb = rw eb at rest
        go rest false false ea eb = rw eb at rest

-- the sibling at a place where its dot isn't found has another
absent_at : (xs : List Sibling) (i : ℕ) (d : Dot) (x : Sibling) → i < length xs → content_at xs d ≡ None → x ≡ get_or xs i x → x.dot ≢ d
absent_at [] i d x lt none is e = omega arith
absent_at (y ∷ ys) zero d x lt none is e = here (is_dot y.dot d) (is_dot-same y.dot d (ap (λ (s : Sibling). s.dot) (sym is) ∙ e)) none
  where
    here : (b : Bool) → b ≡ true → cond b (Some y.content) (content_at ys d) ≡ None → ⊥
    here true t n = cc
    here false t n = cc
absent_at (y ∷ ys) (suc i) d x lt none is e = absent_at ys i d x (omega arith) (later (is_dot y.dot d) none) is e
  where
    later : (b : Bool) → cond b (Some y.content) (content_at ys d) ≡ None → content_at ys d ≡ None
    later true n = absurd (cc)
    later false n = n

-- one sibling more that is below
pub one_more_below : (xs : List Sibling) (i : ℕ) (d : Dot) (x : Sibling) → i < length xs → content_at xs d ≡ None → x ≡ get_or xs i x → (IsBefore d x.dot → ⊥) → AllByRecursion (λ s. IsBefore s.dot d) (take i xs) → AllByRecursion (λ s. IsBefore s.dot d) (take (i + 1) xs)
one_more_below xs i d x lt none is no' below = recursion_from_All (λ s. IsBefore s.dot d) (take (i + 1) xs) (All-more (λ s. IsBefore s.dot d) xs i x lt (All-from_recursion (λ s. IsBefore s.dot d) (take i xs) below) (subst (λ (s : Sibling). IsBefore s.dot d) is (not_before d x.dot no' (λ e. absent_at xs i d x lt none is (sym e)))))

-- where the next one is above, so are all after it
pub gap_at : (xs : List Sibling) (i : ℕ) (d : Dot) (x : Sibling) → i < length xs → AreInOrder xs → x ≡ get_or xs i x → IsBefore d x.dot → AllByRecursion (λ s. IsBefore s.dot d) (take i xs) → IsSiblingGap xs i d
gap_at xs i d x lt order is before below = record { within = omega arith; lower = below; higher = higher xs i lt order is }
  where
    all_after : (ys : List Sibling) (y : Sibling) → IsBefore d y.dot → AllByRecursion (λ s. IsBefore y.dot s.dot) ys → AllByRecursion (λ s. IsBefore d s.dot) ys
    all_after [] y b each = tt
    all_after (z ∷ zs) y b each = (before_trans d y.dot z.dot b each.0, all_after zs y b each.1)

    higher : (ys : List Sibling) (j : ℕ) → j < length ys → AreInOrder ys → x ≡ get_or ys j x → AllByRecursion (λ s. IsBefore d s.dot) (drop j ys)
    higher [] j l o e = absurd (omega arith)
    higher (y ∷ ys) zero l o e = let b : IsBefore d y.dot = subst (λ (s : Sibling). IsBefore d s.dot) e before in (b, all_after ys y b o.0)
    higher (y ∷ ys) (suc j) l o e = higher ys j (omega arith) o.1 e

-- an absent dot stays absent
pub absent_kept : (seen : List Dot) (xs : List Sibling) (d : Dot) → content_at xs d ≡ None → content_at (kept seen xs) d ≡ None
absent_kept seen xs d none = content_at-kept seen xs d ∙ go (covers seen d)
  where
    go : (b : Bool) → cond b None (content_at xs d) ≡ None
    go true = refl
    go false = none

-- first the seen ones go, and then one comes
pub replaces : (old mid new : List Sibling) (seen : List Dot) (s : Sibling) → mid ≡ kept seen old → InsertsSibling mid new s → ReplacesSeen old new seen s
replaces old mid new seen s is i = record {
  in_order = i.in_order;
  content = λ d. i.content d ∙ ap (λ (o : Option Content). cond (is_dot s.dot d) (Some s.content) o) (ap (λ (xs : List Sibling). content_at xs d) is ∙ content_at-kept seen old d);
  covered = λ clock each one. i.covered clock (subst (AreCovered clock) (sym is) (each_kept (λ (t : Sibling). Covers clock t.dot) (λ t. not (covers seen t.dot)) old each)) one;
}

-- a dot that the clock doesn't cover is no sibling's
pub absent_uncovered : (clock : List Dot) (xs : List Sibling) (d : Dot) → AreCovered clock xs → (Covers clock d → ⊥) → content_at xs d ≡ None
absent_uncovered clock [] d each free = refl
absent_uncovered clock (x ∷ xs) d each free = rw (is_dot-other x.dot d (λ e. free (subst (Covers clock) e each.0))) (absent_uncovered clock xs d each.1 free)

pub covered_more : (old new : List Dot) (xs : List Sibling) → ((d : Dot) → Covers old d → Covers new d) → AreCovered old xs → AreCovered new xs
covered_more old new [] more each = tt
covered_more old new (x ∷ xs) more each = (more x.dot each.0, covered_more old new xs more each.1)

-- the state after a put
pub puts_state : (old : State) (siblings : List Sibling) (clock seen : List Dot) (s : Sibling) → IsState old → ReplacesSeen old.siblings siblings seen s → AddsEvent old.clock clock s.dot → IsClock clock → IsState (record { siblings = siblings; clock = clock })
puts_state old siblings clock seen s is r adds good = record {
  in_order = r.in_order;
  covered = r.covered clock (covered_more old.clock clock old.siblings (λ d h. (adds d).1 (inl h)) is.covered) ((adds s.dot).1 (inr refl));
  clock = good;
}

pub puts_what : (old : State) (siblings : List Sibling) (clock seen : List Dot) (s : Sibling) → ReplacesSeen old.siblings siblings seen s → AddsEvent old.clock clock s.dot → Puts old (record { siblings = siblings; clock = clock }) s.dot seen s.content
puts_what old siblings clock seen s r adds = record {
  added = r.content s.dot ∙ (rw (is_dot-same s.dot s.dot refl) refl);
  others = λ d ne. r.content d ∙ (rw (is_dot-other s.dot d (λ e. ne (sym e))) refl);
  clock = adds;
}

-- what is found is covered
pub found_covered : (clock : List Dot) (xs : List Sibling) (d : Dot) (c : Content) → AreCovered clock xs → content_at xs d ≡ Some c → covers clock d ≡ true
found_covered clock [] d c each e = absurd (cc)
found_covered clock (x ∷ xs) d c each e = go (λ h. found_covered clock xs d c each.1 h) (is_dot x.dot d) refl e
  where
    go : (content_at xs d ≡ Some c → covers clock d ≡ true) → (b : Bool) → is_dot x.dot d ≡ b → cond b (Some x.content) (content_at xs d) ≡ Some c → covers clock d ≡ true
    go further true f h = ap (covers clock) (sym (is_dot-true x.dot d f)) ∙ and_from _ _ (le-leb _ _ each.0.0) (le-leb _ _ each.0.1)
    go further false f h = further h

-- the next event of a vnode isn't known yet
pub next_uncovered : (clock : List Dot) (v : ℕ) (d : Dot) → d ≡ record { vnode = v; n = counter clock v + 1 } → Covers clock d → ⊥
next_uncovered clock v d is h = let k : Covers clock (record { vnode = v; n = counter clock v + 1 }) = subst (Covers clock) is h in omega (arith, k.1)

-- siblings whose contents are found under dots of a clock are covered by it
pub found_covers : (clock : List Dot) (xs : List Sibling) → ((d : Dot) (c : Content) → content_at xs d ≡ Some c → Covers clock d) → AreCovered clock xs
found_covers clock [] each = tt
found_covers clock (x ∷ xs) each = (each x.dot x.content (rw (is_dot-same x.dot x.dot refl) refl), found_covers clock xs (λ d c e. later d c e (is_dot x.dot d) refl))
  where
    later : (d : Dot) (c : Content) → content_at xs d ≡ Some c → (q : Bool) → is_dot x.dot d ≡ q → Covers clock d
    later d c e true f = each d x.content (rw f refl)
    later d c e false f = each d c (rw f e)
