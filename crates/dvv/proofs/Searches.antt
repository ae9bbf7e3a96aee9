-- What a binary search finds among entries.
use Rattle.std.proofs.Common.{◌≡◌, ℕ, zero, suc, ◌+◌, ◌<◌, ◌≤◌, List, [], ◌∷◌, length, get_or, take, Result, Ok, Err, IfOk, IfErr, sym, ap, arith}
use Rattle.std.specs.List.{AllByRecursion}
use Rattle.std.specs.List.Sorted.{IsSearchInRange, IsBinarySearchResult, IsNonDecreasingBy}
use Rattle.std.specs.Ordering.{nat_cmp, ordering_index}
use Rattle.std.proofs.lemmas.Cmp.{ranked}
use Rattle.std.proofs.lemmas.List.Sorted.{IsNonDecreasingBy-from_default}
use Rattle.std.proofs.lemmas.Bool.Decides.{nat_tests}
use Rattle.dvv.specs.declared.Dot.{Dot}
use Rattle.dvv.specs.Clock.{AreRising, IsPlaceOf, IsGapFor}

no_dot : Dot
no_dot = record { vnode = 0; n = 0 }

-- no entry of a rising list is below its bound
from_bound : (bound : ℕ) (es : List Dot) (i : ℕ) (d : Dot) → AreRising bound es → i < length es → bound ≤ (get_or es i d).vnode
from_bound bound [] i d r lt = absurd (omega arith)
from_bound bound (e ∷ es) zero d r lt = r.0
from_bound bound (e ∷ es) (suc i) d r lt = omega (arith, from_bound (e.vnode + 1) es i d r.3 (omega arith), r.0)

-- the vnodes rise
vnodes_rise : (bound : ℕ) (es : List Dot) (i j : ℕ) (d : Dot) → AreRising bound es → i < j → j < length es → (get_or es i d).vnode < (get_or es j d).vnode
vnodes_rise bound [] i j d r lt in_range = absurd (omega arith)
vnodes_rise bound (e ∷ es) i zero d r lt in_range = absurd (omega arith)
vnodes_rise bound (e ∷ es) zero (suc j) d r lt in_range = omega (arith, from_bound (e.vnode + 1) es j d r.3 (omega arith))
vnodes_rise bound (e ∷ es) (suc i) (suc j) d r lt in_range = vnodes_rise (e.vnode + 1) es i j d r.3 (omega arith) (omega arith)

-- each of the first entries
lower_from : (es : List Dot) (p v : ℕ) (d : Dot) → p ≤ length es → ((i : ℕ) → i < p → (get_or es i d).vnode < v) → AllByRecursion (λ e. e.vnode < v) (take p es)
lower_from es zero v d le lower = tt
lower_from [] (suc p) v d le lower = tt
lower_from (e ∷ es) (suc p) v d le lower = (lower 0 (omega arith), lower_from es p v d (omega arith) (λ i lt. lower (suc i) (omega arith)))

module _ (es : List Dot) (rising : AreRising 0 es) (v : ℕ) where
  -- the comparisons with a vnode rise along the entries
  comparisons_rise : IsNonDecreasingBy (λ e. ordering_index (nat_cmp e.vnode v)) es
  comparisons_rise = IsNonDecreasingBy-from_default (λ e. ordering_index (nat_cmp e.vnode v)) es (record { vnode = 0; n = 0 }) (λ i j le in_range.
      let up : (get_or es i (record { vnode = 0; n = 0 })).vnode ≤ (get_or es j (record { vnode = 0; n = 0 })).vnode = grind (arith, vnodes_rise 0 es i j (record { vnode = 0; n = 0 }) rising, λ (same : i ≡ j). ap (λ k. (get_or es k (record { vnode = 0; n = 0 })).vnode) same) in
      grind (arith, nat_tests))

  -- a binary search by vnode ends at the entry, or at the gap for it
  pub searched : (r : Result ℕ ℕ) → IsSearchInRange r (length es) → IsBinarySearchResult (λ e. nat_cmp e.vnode v) es r → (IfOk r (λ at. IsPlaceOf es at v)) × (IfErr r (λ at. IsGapFor es at v))
  searched (Ok at) in_range equal = (
    record {
      inside = in_range;
      lower = lower_from es at v (record { vnode = 0; n = 0 }) (omega arith) (λ i lt. omega (arith, vnodes_rise 0 es i at (record { vnode = 0; n = 0 }) rising lt in_range, ranked _ v _ (sym (equal (record { vnode = 0; n = 0 })))));
      here = ranked _ v _ (sym (equal (record { vnode = 0; n = 0 })));
    },
    tt,
  )
  searched (Err at) in_range parted = (
    tt,
    record {
      within = in_range;
      lower = lower_from es at v (record { vnode = 0; n = 0 }) in_range (λ i lt. ranked _ v _ (sym ((parted comparisons_rise).0 i (record { vnode = 0; n = 0 }) (omega arith) lt)));
      higher = λ lt. ranked _ v _ (sym ((parted comparisons_rise).1 at (record { vnode = 0; n = 0 }) (omega arith) lt));
    },
  )
