-- What the rule tells a seat.
use Rattle.std.proofs.Common.{◌++◌, ◌≡◌, ◌≢◌, ◌⊎◌, ℕ, zero, suc, ◌+◌, ◌<◌, ◌≤◌, List, [], ◌∷◌, length, map, refl, sym, ap, ◌∙◌, subst, arith, ⊎_elim, inl, inr}
use Rattle.std.specs.List.{flat_map, Contains}
use Rattle.std.proofs.lemmas.List.Sorted.{IsPermutation-trans, Contains-permutation}
use Rattle.std.proofs.lemmas.List.Elements.{Contains-append_left, Contains-append_right, Contains-append_cases}
use mathlib.Core.Option.{some, some-injective, some-ne-none}
use mathlib.Core.Logic.{dite}
use native.Mathlib.Decide.{ℕ_discrete}
use lib.ListN.{get_elem?, get_or}
use Rattle.cluster_stamps.specs.declared.view.Told.{Told}
use Rattle.cluster_stamps.specs.declared.view.History.{History}
use Rattle.cluster_stamps.specs.declared.view.View.{View}
use Rattle.cluster_stamps.specs.declared.view.Size.{Size}
use Rattle.cluster_stamps.specs.Rule.{times, entries, seen, InOrder, AreInOrder, all_told, stamps, IsAboveAll, IsKept, IsWithin, IsWhole}
use Rattle.cluster_stamps.proofs.Sums.{append_none, total_at, total_two, same_elements, flat_alone}
use Rattle.cluster_stamps.proofs.Orders.{once_at_most, once_below_yes, none_pending, times-append}
use Rattle.cluster_stamps.proofs.Moves.{numbers}

has_flat : {A B : Type 0} (f : A → List B) (xs : List A) (i : ℕ) (v : A) (t : B) → get_elem? xs i ≡ some v → Contains (f v) t → Contains (flat_map f xs) t
has_flat f [] i v t at c = absurd (some-ne-none v (sym at))
has_flat f (x ∷ xs) zero v t at c = Contains-append_left (f x) (flat_map f xs) t (subst (λ y. Contains (f y) t) (sym (some-injective x v at)) c)
has_flat f (x ∷ xs) (suc i) v t at c = Contains-append_right (f x) (flat_map f xs) t (has_flat f xs i v t at c)

pub where_flat : {A B : Type 0} (f : A → List B) (xs : List A) (t : B) → Contains (flat_map f xs) t → (i : ℕ) × (v : A) × (get_elem? xs i ≡ some v) × Contains (f v) t
where_flat f [] t c = absurd (let h = c.1 in omega arith)
where_flat {A} {B} f (x ∷ xs) t c =
    ⊎_elim (λ (here : Contains (f x) t). let r : (i : ℕ) × (v : A) × (get_elem? (x ∷ xs) i ≡ some v) × Contains (f v) t = (0, x, refl, here) in r)
    (λ (there : Contains (flat_map f xs) t). let w = where_flat f xs t there in let r : (i : ℕ) × (v : A) × (get_elem? (x ∷ xs) i ≡ some v) × Contains (f v) t = (suc w.0, w.1, w.2, w.3) in r)
    (Contains-append_cases (f x) (flat_map f xs) t c)

pub has_cases : (u : Told) (us : List Told) (t : Told) → Contains (u ∷ us) t → (u ≡ t) ⊎ Contains us t
has_cases u us t c = at c.0 c.1 c.2
  where
    at : (k : ℕ) → k < length (u ∷ us) → get_or (u ∷ us) k t ≡ t → (u ≡ t) ⊎ Contains us t
    at zero h e = inl e
    at (suc k) h e = inr (k, omega arith, e)

in_order_has : (vnode at low : ℕ) (ts : List Told) (t : Told) → InOrder vnode at low ts → Contains ts t → (t.vnode ≡ vnode) × (seen t ≤ at + entries ts)
in_order_has vnode at low [] t o c = absurd (let h = c.1 in omega arith)
in_order_has vnode at low (u ∷ us) t o c =
    ⊎_elim
    (λ (here : u ≡ t). subst (λ y. (y.vnode ≡ vnode) × (seen y ≤ at + entries (u ∷ us))) here (o.0, (let p = o.1 in omega arith)))
    (λ (there : Contains us t). let r = in_order_has vnode (seen u) (suc u.stamp) us t o.3 there in (r.0, (let p = o.1 in let q = r.1 in omega arith)))
    (has_cases u us t c)

pub ordered_at : (pending : List ℕ) (hs : List History) (i : ℕ) (h : History) → AreInOrder pending hs → get_elem? hs i ≡ some h → InOrder h.vnode 0 0 h.told
ordered_at pending [] i h o at = absurd (some-ne-none h (sym at))
ordered_at pending (x ∷ xs) zero h o at = subst (λ y. InOrder y.vnode 0 0 y.told) (some-injective x h at) o.0
ordered_at pending (x ∷ xs) (suc i) h o at = ordered_at pending xs i h o.2 at

number_at : (hs : List History) (i : ℕ) (h : History) → get_elem? hs i ≡ some h → 1 ≤ times h.vnode (numbers hs)
number_at [] i h at = absurd (some-ne-none h (sym at))
number_at (x ∷ xs) zero h at = let e = ap (λ (y : History). y.vnode) (some-injective x h at) in grind arith
number_at (x ∷ xs) (suc i) h at = omega (arith, number_at xs i h at)

-- what this seat's pass was told of this vnode lies within its journal
pub within : (size : Size) (n : ℕ) (views : List View) (id : ℕ) (v : View) (h : History) → IsKept size n views → get_elem? views id ≡ some v → v.histories ≡ h ∷ [] → IsWithin h.vnode (entries h.told) v.told
within size n views id v h k at own t c same =
    let all = Contains-permutation _ _ t k.told (has_flat (λ (u : View). u.told ++ u.owed) views id v t at (Contains-append_left v.told v.owed t c)) in
    let w = where_flat (λ (u : View). all_told u.histories) views t all in
    let x = where_flat (λ (g : History). g.told) w.1.histories t w.3 in
    let has = in_order_has x.1.vnode 0 0 x.1.told t (ordered_at w.1.pending w.1.histories x.0 x.1 (k.sound w.0 w.1 w.2).ordered x.2) x.3 in
    let mine : 1 ≤ times h.vnode (numbers v.histories) = subst (λ hs. 1 ≤ times h.vnode (numbers hs)) (sym own) (number_at (h ∷ []) 0 h refl) in
    let theirs : 1 ≤ times h.vnode (numbers w.1.histories) = subst (λ m. 1 ≤ times m (numbers w.1.histories)) (sym has.0 ∙ same) (number_at w.1.histories x.0 x.1 x.2) in
    dite (ℕ_discrete w.0 id)
    (λ (e : w.0 ≡ id).
    let u_is : v ≡ w.1 = some-injective v w.1 (sym at ∙ ap (λ i. get_elem? views i) (sym e) ∙ w.2) in
    let x_at : get_elem? (h ∷ []) x.0 ≡ some x.1 = subst (λ hs. get_elem? hs x.0 ≡ some x.1) (ap (λ (y : View). y.histories) (sym u_is) ∙ own) x.2 in
    let x_is : h ≡ x.1 = only x.0 x_at in
    let len = ap (λ (y : History). entries y.told) x_is in
    let q = has.1 in omega arith)
    (λ (ne : w.0 ≢ id). absurd (omega (arith, total_two (λ (u : View). times h.vnode (numbers u.histories)) views id w.0 v w.1 ne at w.2, k.alone h.vnode)))
  where
    only : (i : ℕ) {y : History} → get_elem? (h ∷ []) i ≡ some y → h ≡ y
    only zero {y} e = some-injective h y e
    only (suc i) {y} e = absurd (some-ne-none y (sym e))

stamp_in : (ts : List Told) (t : Told) → Contains ts t → 1 ≤ times t.stamp (map (λ u. u.stamp) ts)
stamp_in [] t c = absurd (let h = c.1 in omega arith)
stamp_in (u ∷ us) t c =
    ⊎_elim (λ (here : u ≡ t). let e = ap (λ (y : Told). y.stamp) here in grind arith) (λ (there : Contains us t). omega (arith, stamp_in us t there)) (has_cases u us t c)

-- the stamp that is drawn next is above those of all that this seat's pass was told
pub above_all : (size : Size) (n : ℕ) (views : List View) (id : ℕ) (v : View) → IsKept size n views → get_elem? views id ≡ some v → IsAboveAll n v.told
above_all size n views id v k at t c =
    let all = Contains-permutation _ _ t k.told (has_flat (λ (u : View). u.told ++ u.owed) views id v t at (Contains-append_left v.told v.owed t c)) in
    let w = where_flat (λ (u : View). all_told u.histories) views t all in
    let here = stamp_in (all_told w.1.histories) t w.3 in
    let whole = times-append t.stamp w.1.pending (map (λ u. u.stamp) (all_told w.1.histories)) in
    once_below_yes t.stamp n (omega (arith, here, whole, total_at (λ (u : View). times t.stamp (stamps u)) views w.0 w.1 w.2, k.once t.stamp))

no_history : (hs : List History) → length hs ≡ 0 → all_told hs ≡ []
no_history [] e = refl
no_history (h ∷ hs) e = absurd (omega arith)

-- who has every part and every history knows all
pub gathered : (size : Size) (n : ℕ) (views : List View) (id : ℕ) (v : View) → IsKept size n views → get_elem? views id ≡ some v → size.passes ≤ v.parts → length v.histories ≡ size.vnodes → v.owed ≡ [] → IsWhole v.told v.histories
gathered size n views id v k at parts vnodes ov = record {
  told = IsPermutation-trans _ _ _ (same_elements _ _ (sym (flat_alone (λ (u : View). u.told ++ u.owed) views id v at untold ∙ ap (λ ts. v.told ++ ts) ov ∙ append_none v.told))) (IsPermutation-trans _ _ _ k.told (same_elements _ _ (flat_alone (λ (u : View). all_told u.histories) views id v at no_histories)));
  ordered = none_pending v.pending v.histories (k.sound id v at).ordered;
  alone = λ x. omega (arith, total_at (λ (u : View). times x (numbers u.histories)) views id v at, k.alone x);
  once = λ x. omega (arith, total_at (λ (u : View). times x (stamps u)) views id v at, k.once x, once_at_most x n, times-append x v.pending (map (λ t. t.stamp) (all_told v.histories)));
}
  where
    untold : (j : ℕ) (u : View) → j ≢ id → get_elem? views j ≡ some u → u.told ++ u.owed ≡ []
    untold j u ne at_j = let i = (k.sound j u at_j).idle (omega (arith, total_two (λ (y : View). y.parts) views id j v u ne at at_j, k.parts)) in ap (λ ts. ts ++ u.owed) i.0 ∙ i.1

    no_histories : (j : ℕ) (u : View) → j ≢ id → get_elem? views j ≡ some u → all_told u.histories ≡ []
    no_histories j u ne at_j = no_history u.histories (omega (arith, total_two (λ (y : View). length y.histories) views id j v u ne at at_j, k.vnodes))
