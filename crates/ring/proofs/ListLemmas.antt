-- The vnodes of a preference list differ.
use Rattle.std.proofs.Common.{◌≡◌, ◌≢◌, ◌==◌, ℕ, zero, suc, ◌+◌, ◌-◌, ◌%◌, ◌<◌, ◌≤◌, ◌⊎◌, inl, inr, Bool, true, false, not, nat_lt, arith, refl, sym, ◌∙◌, ap, List, [], ◌∷◌, filter, get_or, length, map, take}
use Rattle.std.specs.List.{AllByRecursion, range_with_len}
use Rattle.std.proofs.Math.Nat.{mod-eq_of_lt, add-mod_right}
use Rattle.std.proofs.lemmas.Bool.Decides.{nat_tests}
use Rattle.std.proofs.lemmas.List.FromFn.{take-map-range_with_len}
use Rattle.ring.specs.Places.{AreDifferent, PlacementView, copies_in, vnode_at, preferred}

-- below twice another, the rest is the number or the other less
wraps : (x n : ℕ) → x < n + n → ((x < n) × (x % n ≡ x)) ⊎ ((n ≤ x) × (x % n + n ≡ x))
wraps x n lt = by_test (nat_lt x n) refl
  where
    by_test : (b : Bool) → nat_lt x n ≡ b → ((x < n) × (x % n ≡ x)) ⊎ ((n ≤ x) × (x % n + n ≡ x))
    by_test true e = let below : x < n = grind (arith, nat_tests) in inl (below, mod-eq_of_lt below)
    by_test false e =
        let past : n ≤ x = grind (arith, nat_tests) in
        let rest : x - n < n = omega arith in
        let whole : (x - n) + n ≡ x = omega arith in
        let is : x % n ≡ x - n = ap (λ y. y % n) (sym whole) ∙ add-mod_right (x - n) n ∙ mod-eq_of_lt rest in
        inr (past, omega arith)

-- vnodes at different indexes differ
apart : (place vnodes i j : ℕ) → place < vnodes → i < j → j < vnodes → vnode_at place i vnodes ≢ vnode_at place j vnodes
apart place vnodes i j lt before below same = by_wraps (wraps (place + i) vnodes (omega arith)) (wraps (place + j) vnodes (omega arith))
  where
    by_wraps : (((place + i) < vnodes) × ((place + i) % vnodes ≡ place + i)) ⊎ ((vnodes ≤ place + i) × ((place + i) % vnodes + vnodes ≡ place + i))
        → (((place + j) < vnodes) × ((place + j) % vnodes ≡ place + j)) ⊎ ((vnodes ≤ place + j) × ((place + j) % vnodes + vnodes ≡ place + j)) → ⊥
    by_wraps (inl a) (inl b) = omega (arith, a.1, b.1, same)
    by_wraps (inl a) (inr b) = omega (arith, a.1, b.1, same)
    by_wraps (inr a) (inl b) = omega (arith, a.1, b.1, a.0, b.0, same)
    by_wraps (inr a) (inr b) = omega (arith, a.1, b.1, same)

-- the vnode at an index differs from those at so many later ones
unlike_later : (place vnodes i from n : ℕ) → place < vnodes → i < from → from + n ≤ vnodes → AllByRecursion (λ v. vnode_at place i vnodes ≢ v) (map (λ index. vnode_at place index vnodes) (range_with_len from n))
unlike_later place vnodes i from zero lt before below = tt
unlike_later place vnodes i from (suc n) lt before below = (apart place vnodes i from lt before (omega arith), unlike_later place vnodes i (from + 1) n lt (omega arith) (omega arith))

-- vnodes that follow each other differ, where there are no more than that
all_differ : (place vnodes from n : ℕ) → place < vnodes → from + n ≤ vnodes → AreDifferent (map (λ index. vnode_at place index vnodes) (range_with_len from n))
all_differ place vnodes from zero lt below = tt
all_differ place vnodes from (suc n) lt below = (unlike_later place vnodes from (from + 1) n lt (omega arith) (omega arith), all_differ place vnodes (from + 1) n lt (omega arith))

pub preferred_differ : (placement : PlacementView) (place : ℕ) → place < placement.vnodes → AreDifferent (preferred placement place)
preferred_differ placement place lt = all_differ place placement.vnodes 0 (copies_in placement) lt (grind arith)

-- the front of three that follow each other
pub front_preferred : (placement : PlacementView) (place : ℕ) → copies_in placement ≤ 3
    → take (copies_in placement) (map (λ index. vnode_at place index placement.vnodes) (range_with_len 0 3)) ≡ preferred placement place
front_preferred placement place few = take-map-range_with_len (λ index. vnode_at place index placement.vnodes) 0 3 (copies_in placement) few

-- vnodes at two different indexes differ
unlike : (place vnodes i j : ℕ) → place < vnodes → (i < j) ⊎ (j < i) → i < vnodes → j < vnodes → vnode_at place i vnodes ≢ vnode_at place j vnodes
unlike place vnodes i j lt (inl before) below_i below_j = apart place vnodes i j lt before below_j
unlike place vnodes i j lt (inr after) below_i below_j = λ same. apart place vnodes j i lt after below_i (sym same)

-- the front of the others of three is the others of fewer
pub front_others : (f : ℕ → ℕ) (at n : ℕ) (rest : List ℕ) → at < n → n ≤ 3 → rest ≡ filter (λ index. not (index == at)) (range_with_len 0 3)
    → take (n - 1) (f (get_or rest 0 0) ∷ f (get_or rest 1 0) ∷ f at ∷ []) ≡ map f (filter (λ index. not (index == at)) (range_with_len 0 n))
front_others f at zero rest lt few is = absurd (omega arith)
front_others f zero (suc zero) rest lt few is = refl
front_others f (suc at) (suc zero) rest lt few is = absurd (omega arith)
front_others f zero (suc (suc zero)) rest lt few is = ap (λ (l : List ℕ). f (get_or l 0 0) ∷ []) is
front_others f (suc zero) (suc (suc zero)) rest lt few is = ap (λ (l : List ℕ). f (get_or l 0 0) ∷ []) is
front_others f (suc (suc at)) (suc (suc zero)) rest lt few is = absurd (omega arith)
front_others f zero (suc (suc (suc zero))) rest lt few is = ap (λ (l : List ℕ). f (get_or l 0 0) ∷ f (get_or l 1 0) ∷ []) is
front_others f (suc zero) (suc (suc (suc zero))) rest lt few is = ap (λ (l : List ℕ). f (get_or l 0 0) ∷ f (get_or l 1 0) ∷ []) is
front_others f (suc (suc zero)) (suc (suc (suc zero))) rest lt few is = ap (λ (l : List ℕ). f (get_or l 0 0) ∷ f (get_or l 1 0) ∷ []) is
front_others f (suc (suc (suc at))) (suc (suc (suc zero))) rest lt few is = absurd (omega arith)
front_others f at (suc (suc (suc (suc n)))) rest lt few is = absurd (omega arith)

-- one of the first so many and the others of these differ
pub others_differ : (place vnodes at n : ℕ) → place < vnodes → n ≤ vnodes → at < n → n ≤ 3
    → AreDifferent (vnode_at place at vnodes ∷ map (λ index. vnode_at place index vnodes) (filter (λ index. not (index == at)) (range_with_len 0 n)))
others_differ place vnodes at zero lt fits below few = absurd (omega arith)
others_differ place vnodes zero (suc zero) lt fits below few = (tt, tt)
others_differ place vnodes (suc at) (suc zero) lt fits below few = absurd (omega arith)
others_differ place vnodes zero (suc (suc zero)) lt fits below few = ((apart place vnodes 0 1 lt (omega arith) (omega arith), tt), (tt, tt))
others_differ place vnodes (suc zero) (suc (suc zero)) lt fits below few = ((unlike place vnodes 1 0 lt (inr (omega arith)) (omega arith) (omega arith), tt), (tt, tt))
others_differ place vnodes (suc (suc at)) (suc (suc zero)) lt fits below few = absurd (omega arith)
others_differ place vnodes zero (suc (suc (suc zero))) lt fits below few = (
  (apart place vnodes 0 1 lt (omega arith) (omega arith), (apart place vnodes 0 2 lt (omega arith) (omega arith), tt)),
  ((apart place vnodes 1 2 lt (omega arith) (omega arith), tt), (tt, tt)),
)
others_differ place vnodes (suc zero) (suc (suc (suc zero))) lt fits below few = (
  (unlike place vnodes 1 0 lt (inr (omega arith)) (omega arith) (omega arith), (apart place vnodes 1 2 lt (omega arith) (omega arith), tt)),
  ((apart place vnodes 0 2 lt (omega arith) (omega arith), tt), (tt, tt)),
)
others_differ place vnodes (suc (suc zero)) (suc (suc (suc zero))) lt fits below few = (
  (unlike place vnodes 2 0 lt (inr (omega arith)) (omega arith) (omega arith), (unlike place vnodes 2 1 lt (inr (omega arith)) (omega arith) (omega arith), tt)),
  ((apart place vnodes 0 1 lt (omega arith) (omega arith), tt), (tt, tt)),
)
others_differ place vnodes (suc (suc (suc at))) (suc (suc (suc zero))) lt fits below few = absurd (omega arith)
others_differ place vnodes at (suc (suc (suc (suc n)))) lt fits below few = absurd (omega arith)

-- the others of so many are one fewer
pub others_count : (f : ℕ → ℕ) (at n : ℕ) → at < n → n ≤ 3 → length (map f (filter (λ index. not (index == at)) (range_with_len 0 n))) + 1 ≡ n
others_count f at zero lt few = absurd (omega arith)
others_count f zero (suc zero) lt few = refl
others_count f (suc at) (suc zero) lt few = absurd (omega arith)
others_count f zero (suc (suc zero)) lt few = refl
others_count f (suc zero) (suc (suc zero)) lt few = refl
others_count f (suc (suc at)) (suc (suc zero)) lt few = absurd (omega arith)
others_count f zero (suc (suc (suc zero))) lt few = refl
others_count f (suc zero) (suc (suc (suc zero))) lt few = refl
others_count f (suc (suc zero)) (suc (suc (suc zero))) lt few = refl
others_count f (suc (suc (suc at))) (suc (suc (suc zero))) lt few = absurd (omega arith)
others_count f at (suc (suc (suc (suc n)))) lt few = absurd (omega arith)
