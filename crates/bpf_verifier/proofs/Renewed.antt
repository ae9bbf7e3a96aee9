-- Sums that are changed in place, one after another.
use Rattle.std.proofs.Common.{◌≡◌, ℕ, zero, suc, ◌+◌, ◌<◌, ◌++◌, List, [], ◌∷◌, length, take, drop, set, get_or, Option, refl, ap, ◌∙◌, arith}
use Rattle.std.specs.Prelude.{map}
use Rattle.bpf_insn.specs.Encoding.{number}
use Rattle.bpf_insn.specs.declared.Register.{Register}
use Rattle.bpf_insn.specs.declared.Register.TheVariants.{R0, R1, R2, R3, R4, R5, R6, R7, R8, R9, R10}
use Rattle.bpf_verifier.specs.Sums.{KnownSums, without, renewed}
use Rattle.bpf_verifier.specs.declared.sum.Sum.{Sum}

step : {X : Type 0} (f : X → X) (xs : List X) (i : ℕ) (d y : X) → i < length xs → y ≡ f (get_or (map f (take i xs) ++ drop i xs) i d)
    → set (map f (take i xs) ++ drop i xs) i y ≡ map f (take (suc i) xs) ++ drop (suc i) xs
step f [] i d y lt new = absurd (omega (arith, lt))
step f (z ∷ xs) zero d y lt new = ap (λ k. k ∷ xs) new
step f (z ∷ xs) (suc i) d y lt new = ap (λ l. f z ∷ l) (step f xs i d y (let l = lt in omega (arith, l)) new)

-- the item at a place is changed, where those before it were
pub mapped_more : {X : Type 0} (f : X → X) (xs now : List X) (i : ℕ) (d y : X) → i < length xs → now ≡ map f (take i xs) ++ drop i xs → y ≡ f (get_or now i d)
    → set now i y ≡ map f (take (i + 1) xs) ++ drop (i + 1) xs
mapped_more {X} f xs now i d y lt so new =
    let more : suc i ≡ i + 1 = omega arith in
    ap (λ (l : List X). set l i y) so ∙ step f xs i d y lt (new ∙ ap (λ (l : List X). f (get_or l i d)) so) ∙ ap (λ (k : ℕ). map f (take k xs) ++ drop k xs) more

each : (dst : Register) (new a b c d e f g h i j k : Option Sum) → set (map (without dst) (a ∷ b ∷ c ∷ d ∷ e ∷ f ∷ g ∷ h ∷ i ∷ j ∷ k ∷ [])) (number dst) new ≡ renewed dst new (a ∷ b ∷ c ∷ d ∷ e ∷ f ∷ g ∷ h ∷ i ∷ j ∷ k ∷ [])
each R0 new a b c d e f g h i j k = refl
each R1 new a b c d e f g h i j k = refl
each R2 new a b c d e f g h i j k = refl
each R3 new a b c d e f g h i j k = refl
each R4 new a b c d e f g h i j k = refl
each R5 new a b c d e f g h i j k = refl
each R6 new a b c d e f g h i j k = refl
each R7 new a b c d e f g h i j k = refl
each R8 new a b c d e f g h i j k = refl
each R9 new a b c d e f g h i j k = refl
each R10 new a b c d e f g h i j k = refl

-- those of a register that is written are forgotten, and then its own is set
pub renewed_is : (dst : Register) (new : Option Sum) (sums : KnownSums) → length sums ≡ 11 → set (map (without dst) sums) (number dst) new ≡ renewed dst new sums
renewed_is dst new [] len = absurd (omega (arith, len))
renewed_is dst new (a ∷ []) len = absurd (omega (arith, len))
renewed_is dst new (a ∷ b ∷ []) len = absurd (omega (arith, len))
renewed_is dst new (a ∷ b ∷ c ∷ []) len = absurd (omega (arith, len))
renewed_is dst new (a ∷ b ∷ c ∷ d ∷ []) len = absurd (omega (arith, len))
renewed_is dst new (a ∷ b ∷ c ∷ d ∷ e ∷ []) len = absurd (omega (arith, len))
renewed_is dst new (a ∷ b ∷ c ∷ d ∷ e ∷ f ∷ []) len = absurd (omega (arith, len))
renewed_is dst new (a ∷ b ∷ c ∷ d ∷ e ∷ f ∷ g ∷ []) len = absurd (omega (arith, len))
renewed_is dst new (a ∷ b ∷ c ∷ d ∷ e ∷ f ∷ g ∷ h ∷ []) len = absurd (omega (arith, len))
renewed_is dst new (a ∷ b ∷ c ∷ d ∷ e ∷ f ∷ g ∷ h ∷ i ∷ []) len = absurd (omega (arith, len))
renewed_is dst new (a ∷ b ∷ c ∷ d ∷ e ∷ f ∷ g ∷ h ∷ i ∷ j ∷ []) len = absurd (omega (arith, len))
renewed_is dst new (a ∷ b ∷ c ∷ d ∷ e ∷ f ∷ g ∷ h ∷ i ∷ j ∷ k ∷ []) len = each dst new a b c d e f g h i j k
renewed_is dst new (a ∷ b ∷ c ∷ d ∷ e ∷ f ∷ g ∷ h ∷ i ∷ j ∷ k ∷ l ∷ more) len = absurd (omega (arith, len))
