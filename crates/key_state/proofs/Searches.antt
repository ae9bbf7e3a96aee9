-- What a search finds among dots and siblings that rise.
use Rattle.std.proofs.Common.{◌≡◌, ◌≢◌, ℕ, zero, suc, ◌<◌, ◌≤◌, ◌||◌, Bool, true, false, List, [], ◌∷◌, length, get_or, map, Some, None, refl, sym, ap, subst, ◌∙◌, inl, inr, arith}
use Rattle.std.specs.List.{AllByRecursion, list_any}
use Rattle.std.specs.List.Sorted.{IsPartitionPoint, IsPartitionedBy}
use Rattle.std.proofs.lemmas.Bool.{both_ways}
use Rattle.std.proofs.lemmas.Bool.Decides.{nat_tests}
use Rattle.dvv.specs.declared.Dot.{Dot}
use Rattle.dvv.specs.Dots.{is_before}
use Rattle.key_state.specs.declared.content.Sibling.{Sibling}
use Rattle.key_state.specs.State.{content_at, is_dot, IsBefore, AreInOrder}
use Rattle.key_state.specs.Parts.{AreDotsInOrder}
use Rattle.key_state.proofs.Siblings.{is_dot-same, is_dot-other, cases_dot, before_other, before_trans, not_before}
use Rattle.key_state.proofs.Merges.{absent_after, all_after}

-- the test tells the order
before_true : (a b : Dot) → is_before a b ≡ true → IsBefore a b
before_true a b t = grind (arith, nat_tests)

true_before : (a b : Dot) → IsBefore a b → is_before a b ≡ true
true_before a b (inl v) = grind (arith, nat_tests)
true_before a b (inr n) = grind (arith, nat_tests, n.0, n.1)

-- along dots that rise, those before a dot come first
pub dots_parted : (d : Dot) (xs : List Dot) → AreDotsInOrder xs → IsPartitionedBy (λ x. is_before x d) xs
dots_parted d [] order i j z le lt t = absurd (omega arith)
dots_parted d (x ∷ xs) order zero zero z le lt t = t
dots_parted d (x ∷ xs) order (suc i) zero z le lt t = absurd (omega arith)
dots_parted d (x ∷ xs) order zero (suc j) z le lt t = true_before x d (before_trans x (get_or xs j z) d (each xs j (omega arith) order.0) (before_true (get_or xs j z) d t))
  where
    each : (ys : List Dot) (k : ℕ) → k < length ys → AllByRecursion (λ y. IsBefore x y) ys → IsBefore x (get_or ys k z)
    each [] k l h = absurd (omega arith)
    each (y ∷ ys) zero l h = h.0
    each (y ∷ ys) (suc k) l h = each ys k (omega arith) h.1
dots_parted d (x ∷ xs) order (suc i) (suc j) z le lt t = dots_parted d xs order.1 i j z (omega arith) (omega arith) t

-- after a dot that is another and isn't before, all is another
none_after : (x d : Dot) (xs : List Dot) → x ≢ d → is_before x d ≡ false → AllByRecursion (λ y. IsBefore x y) xs → list_any (λ y. is_dot y d) (x ∷ xs) ≡ false
none_after x d xs other late each = rw (is_dot-other x d other) (all xs (λ y b. before_trans d x y lower b) each)
  where
    lower : IsBefore d x
    lower = not_before x d (λ b. both_ways _ late (true_before x d b)) other

    all : (ys : List Dot) → ((y : Dot) → IsBefore x y → IsBefore d y) → AllByRecursion (λ y. IsBefore x y) ys → list_any (λ y. is_dot y d) ys ≡ false
    all [] up h = refl
    all (y ∷ ys) up h = rw (is_dot-other y d (λ e. before_other d y (up y h.0) (sym e))) (all ys up h.1)

-- where the dot at the point is another, none is this one
pub dot_absent : (xs : List Dot) (d : Dot) (at : ℕ) → AreDotsInOrder xs → IsPartitionPoint (λ x. is_before x d ≡ true) (λ x. is_before x d ≡ false) xs at → ((z : Dot) → at < length xs → get_or xs at z ≢ d) → list_any (λ x. is_dot x d) xs ≡ false
dot_absent [] d at order parted other = refl
dot_absent (x ∷ xs) d zero order parted other = none_after x d xs (other x (omega arith)) (parted.1 0 d (omega arith) (omega arith)) order.0
dot_absent (x ∷ xs) d (suc at) order parted other = rw (is_dot-other x d (before_other x d (before_true x d (parted.0 0 d (omega arith) (omega arith)))))
    (dot_absent xs d at order.1 ((λ i z from to. parted.0 (suc i) z (omega arith) (omega arith)), (λ i z from to. parted.1 (suc i) z (omega arith) (omega arith))) (λ z lt e. other z (omega arith) e))

-- and where it is this one, it is found
dot_found : (xs : List Dot) (d : Dot) (at : ℕ) (x : Dot) → at < length xs → x ≡ get_or xs at x → x ≡ d → list_any (λ y. is_dot y d) xs ≡ true
dot_found [] d at x lt at_x is = absurd (omega arith)
dot_found (y ∷ ys) d zero x lt at_x is = rw (is_dot-same y d (sym at_x ∙ is)) refl
dot_found (y ∷ ys) d (suc at) x lt at_x is = go (is_dot y d) (dot_found ys d at x (omega arith) at_x is)
  where
    go : (b : Bool) → list_any (λ y. is_dot y d) ys ≡ true → (b || list_any (λ y. is_dot y d) ys) ≡ true
    go true more = refl
    go false more = more

other_default : {X : Type 0} (xs : List X) (i : ℕ) (a b : X) → i < length xs → get_or xs i a ≡ get_or xs i b
other_default [] i a b lt = absurd (omega arith)
other_default (x ∷ xs) zero a b lt = refl
other_default (x ∷ xs) (suc i) a b lt = other_default xs i a b (omega arith)

-- so the dot at the point tells
pub dot_at_point : (xs : List Dot) (d x : Dot) (at : ℕ) → AreDotsInOrder xs → IsPartitionPoint (λ x. is_before x d ≡ true) (λ x. is_before x d ≡ false) xs at → at < length xs → x ≡ get_or xs at x → is_dot x d ≡ list_any (λ y. is_dot y d) xs
dot_at_point xs d x at order parted lt at_x = elim (cases_dot x d) [
  | inl same ↦ is_dot-same x d same ∙ sym (dot_found xs d at x lt at_x same)
  | inr other ↦ is_dot-other x d other ∙ sym (dot_absent xs d at order parted (λ z l e. other (at_x ∙ other_default xs at x z lt ∙ e)))
]

-- the dots of siblings in order rise
pub dots_in_order : (xs : List Sibling) → AreInOrder xs → AreDotsInOrder (map (λ (s : Sibling). s.dot) xs)
dots_in_order [] order = tt
dots_in_order (x ∷ xs) order = (each xs order.0, dots_in_order xs order.1)
  where
    each : (ys : List Sibling) → AllByRecursion (λ s. IsBefore x.dot s.dot) ys → AllByRecursion (λ d. IsBefore x.dot d) (map (λ (s : Sibling). s.dot) ys)
    each [] h = tt
    each (y ∷ ys) h = (h.0, each ys h.1)

-- the same of siblings
pub siblings_parted : (d : Dot) (xs : List Sibling) → AreInOrder xs → IsPartitionedBy (λ s. is_before s.dot d) xs
siblings_parted d [] order i j z le lt t = absurd (omega arith)
siblings_parted d (x ∷ xs) order zero zero z le lt t = t
siblings_parted d (x ∷ xs) order (suc i) zero z le lt t = absurd (omega arith)
siblings_parted d (x ∷ xs) order zero (suc j) z le lt t = true_before x.dot d (before_trans x.dot (get_or xs j z).dot d (each xs j (omega arith) order.0) (before_true (get_or xs j z).dot d t))
  where
    each : (ys : List Sibling) (k : ℕ) → k < length ys → AllByRecursion (λ y. IsBefore x.dot y.dot) ys → IsBefore x.dot (get_or ys k z).dot
    each [] k l h = absurd (omega arith)
    each (y ∷ ys) zero l h = h.0
    each (y ∷ ys) (suc k) l h = each ys k (omega arith) h.1
siblings_parted d (x ∷ xs) order (suc i) (suc j) z le lt t = siblings_parted d xs order.1 i j z (omega arith) (omega arith) t

-- where the sibling at the point has another dot, there is none of this one
pub content_absent : (xs : List Sibling) (d : Dot) (at : ℕ) → AreInOrder xs → IsPartitionPoint (λ s. is_before s.dot d ≡ true) (λ s. is_before s.dot d ≡ false) xs at → ((z : Sibling) → at < length xs → (get_or xs at z).dot ≢ d) → content_at xs d ≡ None
content_absent [] d at order parted other = refl
content_absent (x ∷ xs) d zero order parted other = rw (is_dot-other x.dot d (other x (omega arith)))
    (absent_after xs d (all_after d x.dot xs (not_before x.dot d (λ b. both_ways _ (parted.1 0 x (omega arith) (omega arith)) (true_before x.dot d b)) (other x (omega arith))) order.0))
content_absent (x ∷ xs) d (suc at) order parted other = rw (is_dot-other x.dot d (before_other x.dot d (before_true x.dot d (parted.0 0 x (omega arith) (omega arith)))))
    (content_absent xs d at order.1 ((λ i z from to. parted.0 (suc i) z (omega arith) (omega arith)), (λ i z from to. parted.1 (suc i) z (omega arith) (omega arith))) (λ z lt e. other z (omega arith) e))

-- and where it has this one, its content is found
pub content_found : (xs : List Sibling) (d : Dot) (at : ℕ) (x : Sibling) → AreInOrder xs → at < length xs → x ≡ get_or xs at x → x.dot ≡ d → content_at xs d ≡ Some x.content
content_found [] d at x order lt is dot = absurd (omega arith)
content_found (y ∷ ys) d zero x order lt is dot = rw (is_dot-same y.dot d (ap (λ (s : Sibling). s.dot) (sym is) ∙ dot)) (ap (λ (s : Sibling). Some s.content) (sym is))
content_found (y ∷ ys) d (suc at) x order lt is dot = rw (is_dot-other y.dot d (λ e. before_other y.dot x.dot (subst (λ (s : Sibling). IsBefore y.dot s.dot) (sym is) (each ys at (omega arith) order.0)) (e ∙ sym dot)))
    (content_found ys d at x order.1 (omega arith) is dot)
  where
    each : (zs : List Sibling) (k : ℕ) → k < length zs → AllByRecursion (λ z. IsBefore y.dot z.dot) zs → IsBefore y.dot (get_or zs k x).dot
    each [] k l h = absurd (omega arith)
    each (z ∷ zs) zero l h = h.0
    each (z ∷ zs) (suc k) l h = each zs k (omega arith) h.1

-- so the sibling at the point tells
pub content_other : (xs : List Sibling) (d : Dot) (at : ℕ) (x : Sibling) → AreInOrder xs → IsPartitionPoint (λ s. is_before s.dot d ≡ true) (λ s. is_before s.dot d ≡ false) xs at → at < length xs → x ≡ get_or xs at x → is_dot x.dot d ≡ false → content_at xs d ≡ None
content_other xs d at x order parted lt at_x other = content_absent xs d at order parted (λ z l e. both_ways _ other (is_dot-same x.dot d (ap (λ (s : Sibling). s.dot) (at_x ∙ other_default xs at x z lt) ∙ e)))

pub content_past : (xs : List Sibling) (d : Dot) (at : ℕ) → AreInOrder xs → IsPartitionPoint (λ s. is_before s.dot d ≡ true) (λ s. is_before s.dot d ≡ false) xs at → length xs ≤ at → content_at xs d ≡ None
content_past xs d at order parted le = content_absent xs d at order parted (λ z l e. omega (arith, l, le))
