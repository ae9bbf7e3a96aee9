-- Two lists of journals, place by place.
use Rattle.std.proofs.Common.{◌≡◌, refl, ap, ℕ, zero, suc, pred, List, [], ◌∷◌, sym, subst, Some, slice_get, slice_set}
use Rattle.std.specs.List.{AllZip}
use Rattle.journal.specs.Logs.{Log}

pub one_is : (a b : Log) → Some a ≡ Some b → a ≡ b
one_is a b h = cc

pub one_less : (n m : ℕ) → suc n ≡ suc m → n ≡ m
one_less n m h = ap pred h

pub more_than_none : (n : ℕ) → suc n ≡ zero → ⊥
more_than_none n h = cc

-- what was set is there
pub set_there : (logs : List Log) (i : ℕ) (log after : Log) → slice_get logs i ≡ Some log → slice_get (slice_set logs i after) i ≡ Some after
set_there [] i log after h = absurd cc
set_there (x ∷ logs) zero log after h = refl
set_there (x ∷ logs) (suc i) log after h = set_there logs i log after h

module _ (R : Log → Log → Type 0) where
  -- beside each of the first stands one of the second
  pub zip_on : (a b : List Log) (i : ℕ) (log : Log) → AllZip R a b → slice_get a i ≡ Some log → (after : Log) × (slice_get b i ≡ Some after) × R log after
  zip_on [] b i log all h = absurd cc
  zip_on (x ∷ a) [] i log all h = absurd all
  zip_on (x ∷ a) (y ∷ b) zero log all h = (y, refl, subst (λ (l : Log). R l y) (one_is x log h) all.0)
  zip_on (x ∷ a) (y ∷ b) (suc i) log all h = zip_on a b i log all.1 h

  -- and beside each of the second one of the first
  pub zip_back : (a b : List Log) (i : ℕ) (after : Log) → AllZip R a b → slice_get b i ≡ Some after → (log : Log) × (slice_get a i ≡ Some log) × R log after
  zip_back a [] i after all h = absurd cc
  zip_back [] (y ∷ b) i after all h = absurd all
  zip_back (x ∷ a) (y ∷ b) zero after all h = (x, refl, subst (λ (l : Log). R x l) (one_is y after h) all.0)
  zip_back (x ∷ a) (y ∷ b) (suc i) after all h = zip_back a b i after all.1 h

  pub zip_far : ((a b c : Log) → R a b → R b c → R a c) → (a b c : List Log) → AllZip R a b → AllZip R b c → AllZip R a c
  zip_far far [] [] [] first second = tt
  zip_far far [] [] (z ∷ c) first second = absurd second
  zip_far far [] (y ∷ b) c first second = absurd first
  zip_far far (x ∷ a) [] c first second = absurd first
  zip_far far (x ∷ a) (y ∷ b) [] first second = absurd second
  zip_far far (x ∷ a) (y ∷ b) (z ∷ c) first second = (far x y z first.0 second.0, zip_far far a b c first.1 second.1)

  module _ (same : (log : Log) → R log log) where
    pub zip_same : (logs : List Log) → AllZip R logs logs
    zip_same [] = tt
    zip_same (log ∷ logs) = (same log, zip_same logs)

    -- one of them is set
    pub zip_set : (logs : List Log) (i : ℕ) (log after : Log) → slice_get logs i ≡ Some log → R log after → AllZip R logs (slice_set logs i after)
    zip_set [] i log after h on = absurd cc
    zip_set (x ∷ logs) zero log after h on = (subst (λ (l : Log). R l after) (sym (one_is x log h)) on, zip_same logs)
    zip_set (x ∷ logs) (suc i) log after h on = (same x, zip_set logs i log after h on)
