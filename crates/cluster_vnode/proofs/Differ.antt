-- Gathered vnodes have different identifiers.
use Rattle.std.proofs.Common.{◌≡◌, ℕ, zero, suc, ◌+◌, ◌<◌, ◌≤◌, ◌==◌, true, List, [], ◌∷◌, length, map, get_or, refl, ap, sym, subst, arith, eq-eqb}
use Rattle.cluster_stamps.specs.declared.view.History.{History}
use Rattle.cluster_stamps.specs.Rule.{times}
use Rattle.journal.specs.Logs.{Log}
use Rattle.cluster_vnode.specs.Gathers.{AreVnodes, Differ, numbers_of}

-- a number that stands somewhere is counted
stands_once : (x : ℕ) (ys : List ℕ) (i : ℕ) → i < length ys → x ≡ get_or ys i 0 → 1 ≤ times x ys
stands_once x [] i lt e = absurd (omega arith)
stands_once x (y ∷ ys) zero lt e = let yes : (y == x) ≡ true = eq-eqb y x (sym e) in rw yes (omega arith)
stands_once x (y ∷ ys) (suc i) lt e = omega (arith, stands_once x ys i (let l = lt in omega arith) e)

once_first : (y : ℕ) (ys : List ℕ) (j : ℕ) → times y (y ∷ ys) ≤ 1 → j < length ys → y ≡ get_or ys j 0 → ⊥
once_first y ys j few lt e =
    let yes : (y == y) ≡ true = eq-eqb y y refl in
    let k : 1 + times y ys ≤ 1 = rw yes at few in
    absurd (omega (arith, stands_once y ys j lt e))

one_place : (ys : List ℕ) → ((x : ℕ) → times x ys ≤ 1) → (i j : ℕ) → i < length ys → j < length ys → get_or ys i 0 ≡ get_or ys j 0 → i ≡ j
one_place [] few i j li lj e = absurd (omega arith)
one_place (y ∷ ys) few zero zero li lj e = refl
one_place (y ∷ ys) few zero (suc j) li lj e = absurd (once_first y ys j (few y) (let l = lj in omega arith) e)
one_place (y ∷ ys) few (suc i) zero li lj e = absurd (once_first y ys i (few y) (let l = li in omega arith) (sym e))
one_place (y ∷ ys) few (suc i) (suc j) li lj e = ap suc (one_place ys (λ x. let f = few x in omega arith) i j (let l = li in omega arith) (let l = lj in omega arith) e)

same_numbers : (vs : List Log) (hs : List History) → AreVnodes vs hs → map (λ h. h.vnode) hs ≡ numbers_of vs
same_numbers [] [] a = refl
same_numbers [] (h ∷ hs) a = absurd a
same_numbers (v ∷ vs) [] a = absurd a
same_numbers (v ∷ vs) (h ∷ hs) a = λ i. a.0.number_is i ∷ same_numbers vs hs a.1 i

pub differ : (vs : List Log) (hs : List History) → AreVnodes vs hs → ((x : ℕ) → times x (map (λ h. h.vnode) hs) ≤ 1) → Differ vs
differ vs hs a few = one_place (numbers_of vs) (subst (λ ns. (x : ℕ) → times x ns ≤ 1) (same_numbers vs hs a) few)
