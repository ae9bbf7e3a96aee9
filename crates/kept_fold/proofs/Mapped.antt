-- Lists whose items are changed in place, one after another.
use Rattle.std.proofs.Common.{◌≡◌, ℕ, zero, suc, ◌+◌, ◌<◌, ◌++◌, List, [], ◌∷◌, length, take, drop, get_or, sym, ap, ◌∙◌, arith}
use Rattle.std.specs.Prelude.{map}
use Rattle.std.proofs.Math.ListN.{set}

step : {X : Type 0} (f : X → X) (xs : List X) (i : ℕ) (x y : X) → i < length xs → x ≡ get_or (map f (take i xs) ++ drop i xs) i x → y ≡ f x
    → set (map f (take i xs) ++ drop i xs) i y ≡ map f (take (suc i) xs) ++ drop (suc i) xs
step f [] i x y lt is new = absurd (omega (arith, lt))
step f (z ∷ xs) zero x y lt is new = ap (λ k. k ∷ xs) (new ∙ ap f is)
step f (z ∷ xs) (suc i) x y lt is new = ap (λ l. f z ∷ l) (step f xs i x y (let l = lt in omega (arith, l)) is new)

-- the item at a place is changed, where those before it were
pub mapped_more : {X : Type 0} (f : X → X) (xs now : List X) (i : ℕ) (x y : X) → i < length xs → x ≡ get_or now i x → now ≡ map f (take i xs) ++ drop i xs → y ≡ f (get_or now i x)
    → set now i y ≡ map f (take (i + 1) xs) ++ drop (i + 1) xs
mapped_more {X} f xs now i x y lt is so new =
    let more : suc i ≡ i + 1 = omega arith in
    ap (λ (l : List X). set l i y) so ∙ step f xs i x y lt (is ∙ ap (λ (l : List X). get_or l i x) so) (new ∙ ap f (sym is)) ∙ ap (λ (k : ℕ). map f (take k xs) ++ drop k xs) more
