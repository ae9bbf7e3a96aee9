-- Names behind buckets of one length are compared part by part.
use Rattle.std.proofs.Common.{◌≡◌, ℕ, Bool, true, false, List, [], ◌∷◌, ◌++◌, length, refl, arith}
use Rattle.std.specs.Prelude.{nat_eq, ◌&&◌}
use Rattle.std.specs.declared.cmp.Ordering.{Ordering}
use Rattle.std.specs.declared.cmp.Ordering.TheVariants.{Less, Equal, Greater}
use Rattle.std.specs.Ordering.{nat_cmp, ordering_then}
use Rattle.std.specs.Cmp.Lexicographic.{pointwise, slice_cmp}

pub joined_cmp : (xs ys us vs : List ℕ) → length xs ≡ length ys → slice_cmp nat_cmp (xs ++ us) (ys ++ vs) ≡ ordering_then (slice_cmp nat_cmp xs ys) (slice_cmp nat_cmp us vs)
joined_cmp [] [] us vs e = refl
joined_cmp [] (y ∷ ys) us vs e = absurd (omega (arith, e))
joined_cmp (x ∷ xs) [] us vs e = absurd (omega (arith, e))
joined_cmp (x ∷ xs) (y ∷ ys) us vs e = by (nat_cmp x y) (joined_cmp xs ys us vs (omega (arith, e)))
  where
    by : (r : Ordering) → slice_cmp nat_cmp (xs ++ us) (ys ++ vs) ≡ ordering_then (slice_cmp nat_cmp xs ys) (slice_cmp nat_cmp us vs) → ordering_then r (slice_cmp nat_cmp (xs ++ us) (ys ++ vs)) ≡ ordering_then (ordering_then r (slice_cmp nat_cmp xs ys)) (slice_cmp nat_cmp us vs)
    by Less e = refl
    by Equal e = e
    by Greater e = refl

-- and are equal part by part
pub joined_eq : (xs ys us vs : List ℕ) → length xs ≡ length ys → pointwise nat_eq (xs ++ us) (ys ++ vs) ≡ pointwise nat_eq xs ys && pointwise nat_eq us vs
joined_eq [] [] us vs e = refl
joined_eq [] (y ∷ ys) us vs e = absurd (omega (arith, e))
joined_eq (x ∷ xs) [] us vs e = absurd (omega (arith, e))
joined_eq (x ∷ xs) (y ∷ ys) us vs e = by (nat_eq x y) (joined_eq xs ys us vs (omega (arith, e)))
  where
    by : (r : Bool) → pointwise nat_eq (xs ++ us) (ys ++ vs) ≡ pointwise nat_eq xs ys && pointwise nat_eq us vs → r && pointwise nat_eq (xs ++ us) (ys ++ vs) ≡ (r && pointwise nat_eq xs ys) && pointwise nat_eq us vs
    by true e = e
    by false e = refl
