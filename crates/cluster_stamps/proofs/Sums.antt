-- Totals, and lists joined end to end, when one member changes.
use Rattle.std.proofs.Common.{◌≡◌, ◌≢◌, ℕ, zero, suc, ◌+◌, ◌≤◌, List, [], ◌∷◌, ◌++◌, set, refl, sym, ap, ◌∙◌, subst, arith, append_assoc}
use Rattle.std.specs.List.{flat_map}
use Rattle.std.specs.List.Sorted.{IsPermutation}
use Rattle.std.proofs.lemmas.List.Sorted.{IsPermutation-refl, IsPermutation-trans, IsPermutation-append_left, IsPermutation-append_right, IsPermutation-append_comm}
use Rattle.std.proofs.lemmas.List.Concat.{flat_map-append}
use mathlib.Core.Option.{some, some-injective, some-ne-none}
use lib.ListN.{get_elem?}
use Rattle.cluster_stamps.specs.Rule.{total}

pub append_none : {A : Type 0} (xs : List A) → xs ++ [] ≡ xs
append_none [] = refl
append_none (x ∷ xs) = ap (λ ys. x ∷ ys) (append_none xs)

pub total-append : {A : Type 0} (f : A → ℕ) (xs ys : List A) → total f (xs ++ ys) ≡ total f xs + total f ys
total-append f [] ys = omega arith
total-append f (x ∷ xs) ys = omega (arith, total-append f xs ys)

pub total_set : {A : Type 0} (f : A → ℕ) (xs : List A) (i : ℕ) (v w : A) → get_elem? xs i ≡ some v → total f (set xs i w) + f v ≡ total f xs + f w
total_set f [] i v w at = absurd (some-ne-none v (sym at))
total_set f (x ∷ xs) zero v w at = let e = ap f (some-injective x v at) in omega arith
total_set f (x ∷ xs) (suc i) v w at = omega (arith, total_set f xs i v w at)

pub total_at : {A : Type 0} (f : A → ℕ) (xs : List A) (i : ℕ) (v : A) → get_elem? xs i ≡ some v → f v ≤ total f xs
total_at f [] i v at = absurd (some-ne-none v (sym at))
total_at f (x ∷ xs) zero v at = let e = ap f (some-injective x v at) in omega arith
total_at f (x ∷ xs) (suc i) v at = omega (arith, total_at f xs i v at)

pub set_swap : {A : Type 0} (xs : List A) (i j : ℕ) (a b : A) → j ≢ i → set (set xs i a) j b ≡ set (set xs j b) i a
set_swap [] i j a b n = refl
set_swap (x ∷ xs) zero zero a b n = absurd (n refl)
set_swap (x ∷ xs) zero (suc j) a b n = refl
set_swap (x ∷ xs) (suc i) zero a b n = refl
set_swap (x ∷ xs) (suc i) (suc j) a b n = ap (λ ys. x ∷ ys) (set_swap xs i j a b (λ e. n (ap suc e)))

pub same_elements : {A : Type 0} (xs ys : List A) → xs ≡ ys → IsPermutation xs ys
same_elements xs ys e = subst (λ zs. IsPermutation xs zs) e (IsPermutation-refl xs)

-- where one member's list changes, so do all of them together
pub moved_set : {A B : Type 0} (f : A → List B) (xs : List A) (i : ℕ) (v w : A) (gone new : List B) → get_elem? xs i ≡ some v → IsPermutation (f v ++ new) (f w ++ gone)
    → IsPermutation (flat_map f xs ++ new) (flat_map f (set xs i w) ++ gone)
moved_set f [] i v w gone new at p = absurd (some-ne-none v (sym at))
moved_set {A} {B} f (x ∷ xs) zero v w gone new at p =
    let F : List B = flat_map f xs in
    let p' : IsPermutation (f x ++ new) (f w ++ gone) = subst (λ y. IsPermutation (f y ++ new) (f w ++ gone)) (sym (some-injective x v at)) p in
    IsPermutation-trans _ _ _ (same_elements _ _ (append_assoc (f x) F new))
    (IsPermutation-trans _ _ _ (IsPermutation-append_right (f x) _ _ (IsPermutation-append_comm F new))
    (IsPermutation-trans _ _ _ (same_elements _ _ (sym (append_assoc (f x) new F)))
    (IsPermutation-trans _ _ _ (IsPermutation-append_left F _ _ p')
    (IsPermutation-trans _ _ _ (same_elements _ _ (append_assoc (f w) gone F))
    (IsPermutation-trans _ _ _ (IsPermutation-append_right (f w) _ _ (IsPermutation-append_comm gone F))
    (same_elements _ _ (sym (append_assoc (f w) F gone))))))))
moved_set {A} {B} f (x ∷ xs) (suc i) v w gone new at p =
    IsPermutation-trans _ _ _ (same_elements _ _ (append_assoc (f x) (flat_map f xs) new))
    (IsPermutation-trans _ _ _ (IsPermutation-append_right (f x) _ _ (moved_set f xs i v w gone new at p))
    (same_elements _ _ (sym (append_assoc (f x) (flat_map f (set xs i w)) gone))))

pub flat_snoc : {A B : Type 0} (f : A → List B) (xs : List A) (x : A) → flat_map f (xs ++ x ∷ []) ≡ flat_map f xs ++ f x
flat_snoc f xs x = flat_map-append f xs (x ∷ []) ∙ ap (λ ys. flat_map f xs ++ ys) (append_none (f x))

-- two members weigh at most what all weigh
pub total_two : {A : Type 0} (f : A → ℕ) (xs : List A) (i j : ℕ) (v u : A) → j ≢ i → get_elem? xs i ≡ some v → get_elem? xs j ≡ some u → f v + f u ≤ total f xs
total_two f [] i j v u n a b = absurd (some-ne-none v (sym a))
total_two f (x ∷ xs) zero zero v u n a b = absurd (n refl)
total_two f (x ∷ xs) zero (suc j) v u n a b = let e = ap f (some-injective x v a) in omega (arith, total_at f xs j u b)
total_two f (x ∷ xs) (suc i) zero v u n a b = let e = ap f (some-injective x u b) in omega (arith, total_at f xs i v a)
total_two f (x ∷ xs) (suc i) (suc j) v u n a b = omega (arith, total_two f xs i j v u (λ e. n (ap suc e)) a b)

all_none : {A B : Type 0} (f : A → List B) (xs : List A) → ((j : ℕ) (u : A) → get_elem? xs j ≡ some u → f u ≡ []) → flat_map f xs ≡ []
all_none f [] none = refl
all_none f (x ∷ xs) none = ap (λ ys. ys ++ flat_map f xs) (none 0 x refl) ∙ all_none f xs (λ j u at. none (suc j) u at)

-- where the others have none, all that there is is one member's
pub flat_alone : {A B : Type 0} (f : A → List B) (xs : List A) (i : ℕ) (v : A) → get_elem? xs i ≡ some v → ((j : ℕ) (u : A) → j ≢ i → get_elem? xs j ≡ some u → f u ≡ []) → flat_map f xs ≡ f v
flat_alone f [] i v at none = absurd (some-ne-none v (sym at))
flat_alone f (x ∷ xs) zero v at none =
    ap (λ ys. f x ++ ys) (all_none f xs (λ j u b. none (suc j) u (λ e. omega arith) b)) ∙ append_none (f x) ∙ ap f (some-injective x v at)
flat_alone f (x ∷ xs) (suc i) v at none =
    ap (λ ys. ys ++ flat_map f xs) (none 0 x (λ e. omega arith) refl) ∙ flat_alone f xs i v at (λ j u n b. none (suc j) u (λ e. n (omega arith)) b)
