-- Histories in order, and the stamps in them.
use Rattle.std.proofs.Common.{◌≡◌, ℕ, zero, suc, ◌+◌, ◌<◌, ◌≤◌, ◌==◌, List, [], ◌∷◌, ◌++◌, map, Bool, true, false, refl, ap, ◌∙◌, subst, arith, if◌then◌else◌, add-zero}
use Rattle.std.proofs.lemmas.Bool.Decides.{nat_tests}
use Rattle.cluster_stamps.specs.declared.view.Told.{Told}
use Rattle.cluster_stamps.specs.declared.view.History.{History}
use Rattle.cluster_stamps.specs.Rule.{times, entries, seen, InOrder, above, AreInOrder, once_below, all_told}
use Rattle.cluster_stamps.proofs.Sums.{total-append}

-- a history with one more
pub in_order_push : (vnode at low : ℕ) (ts : List Told) (t : Told) → InOrder vnode at low ts → t.vnode ≡ vnode → t.at ≡ at + entries ts → above low ts ≤ t.stamp → InOrder vnode at low (ts ++ t ∷ [])
in_order_push vnode at low [] t o e a b = (e, a ∙ add-zero at, b, tt)
in_order_push vnode at low (u ∷ us) t o e a b =
    (o.0, o.1, o.2, in_order_push vnode (seen u) (suc u.stamp) us t o.3 e (let p = o.1 in omega arith) b)

pub once_here : (n : ℕ) → once_below n n ≡ 0
once_here n = over n n (omega arith)
  where
    over : (x n : ℕ) → n ≤ x → once_below x n ≡ 0
    over x zero h = refl
    over x (suc n) h = grind (arith, over x n (omega arith))

pub once_below_yes : (x n : ℕ) → 1 ≤ once_below x n → x < n
once_below_yes x zero h = absurd (omega arith)
once_below_yes x (suc n) h = grind (arith, once_below_yes x n)

pub once_at_most : (x n : ℕ) → once_below x n ≤ 1
once_at_most x zero = omega arith
once_at_most x (suc n) = grind (arith, once_at_most x n)

times_here : (x : ℕ) (xs : List ℕ) → 1 ≤ times x (x ∷ xs)
times_here x xs = grind arith

-- where each stamp is below n, so is what lies above all of them
pub above_le : (n low : ℕ) (ts : List Told) → ((x : ℕ) → times x (map (λ t. t.stamp) ts) ≤ once_below x n) → low ≤ n → above low ts ≤ n
above_le n low [] all le = le
above_le n low (t ∷ ts) all le =
    let one : t.stamp < n = once_below_yes t.stamp n (omega (arith, times_here t.stamp (map (λ u. u.stamp) ts), all t.stamp)) in
    above_le n (suc t.stamp) ts (λ x. omega (arith, all x)) (omega arith)

pub map_append : {A B : Type 0} (f : A → B) (xs ys : List A) → map f (xs ++ ys) ≡ map f xs ++ map f ys
map_append f [] ys = refl
map_append f (x ∷ xs) ys = ap (λ zs. f x ∷ zs) (map_append f xs ys)

pub times-append : (x : ℕ) (xs ys : List ℕ) → times x (xs ++ ys) ≡ times x xs + times x ys
times-append x xs ys = total-append (λ y. if y == x then 1 else 0) xs ys

-- the histories are in order below n too, where each of their stamps is below n
pub below_new : (n : ℕ) (hs : List History) → AreInOrder [] hs → ((x : ℕ) → times x (map (λ t. t.stamp) (all_told hs)) ≤ once_below x n) → AreInOrder (n ∷ []) hs
below_new n [] o all = tt
below_new n (h ∷ hs) o all =
    let split : (x : ℕ) → times x (map (λ t. t.stamp) (all_told (h ∷ hs))) ≡ times x (map (λ t. t.stamp) h.told) + times x (map (λ t. t.stamp) (all_told hs)) = λ x. ap (times x) (map_append (λ (t : Told). t.stamp) h.told (all_told hs)) ∙ times-append x (map (λ t. t.stamp) h.told) (map (λ t. t.stamp) (all_told hs)) in
    (o.0, (above_le n 0 h.told (λ x. omega (arith, split x, all x)) (omega arith), tt), below_new n hs o.2 (λ x. omega (arith, split x, all x)))

pub none_pending : (pending : List ℕ) (hs : List History) → AreInOrder pending hs → AreInOrder [] hs
none_pending pending [] o = tt
none_pending pending (h ∷ hs) o = (o.0, tt, none_pending pending hs o.2)

pub in_order_append : (hs ks : List History) → AreInOrder [] hs → AreInOrder [] ks → AreInOrder [] (hs ++ ks)
in_order_append [] ks a b = b
in_order_append (h ∷ hs) ks a b = (a.0, tt, in_order_append hs ks a.2 b)

-- the number that is drawn next
pub once_next : (x n t u : ℕ) → t ≤ once_below x n → u ≡ t + (if n == x then 1 else 0) → u ≤ once_below x (suc n)
once_next x n t u le e = by (n == x) refl
  where
    by : (b : Bool) → (n == x) ≡ b → u ≤ once_below x (suc n)
    by true is = let same : n ≡ x = grind (arith, nat_tests) in let z : t ≤ 0 = subst (λ k. t ≤ k) (ap (λ k. once_below x k) same ∙ once_here x) le in grind arith
    by false is = grind arith
