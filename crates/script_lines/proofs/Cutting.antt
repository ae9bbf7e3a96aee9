-- The first line of some bytes.
use Rattle.std.proofs.Common.{◌≡◌, ◌≢◌, ℕ, zero, suc, ◌+◌, ◌<◌, List, [], ◌∷◌, ◌++◌, length, get_or, take, drop, arith, refl, ap, ◌∙◌, add-one, eq-eqb, sym, Some, None}
use Rattle.std.specs.Prelude.{◌==◌, true, false, slice_get}
use Rattle.std.proofs.lemmas.Option.{same_Some}
use Rattle.std.proofs.lemmas.Bool.{ne_eqb, cond-false, cond-true}
use Rattle.script_lines.specs.Lines.{lines_in, begin_line, is_passed_over}

-- it ends with the first line feed
found : (xs : List ℕ) (i : ℕ) → i < length xs → get_or xs i 0 ≡ 10 → ((k : ℕ) → k < i → get_or xs k 0 ≡ 10 → ⊥) → lines_in xs ≡ take (suc i) xs ∷ lines_in (drop (suc i) xs)
unfolding lines_in
found [] i lt at before = absurd (omega arith)
found (x ∷ xs) zero lt at before = cond-true (x == 10) ((x ∷ []) ∷ lines_in xs) (begin_line x (lines_in xs)) (eq-eqb x 10 at)
found (x ∷ xs) (suc i) lt at before =
    let other : x ≢ 10 = before 0 (omega arith) in
    let rest : lines_in xs ≡ take (suc i) xs ∷ lines_in (drop (suc i) xs) = found xs i (omega arith) at (λ k h. before (suc k) (omega arith)) in
    cond-false (x == 10) ((x ∷ []) ∷ lines_in xs) (begin_line x (lines_in xs)) (ne_eqb x 10 other) ∙ ap (begin_line x) rest

-- without one it is all there is
whole : (x : ℕ) (xs : List ℕ) → ((k : ℕ) → k < length (x ∷ xs) → get_or (x ∷ xs) k 0 ≡ 10 → ⊥) → lines_in (x ∷ xs) ≡ (x ∷ xs) ∷ []
unfolding lines_in
whole x [] none = cond-false (x == 10) ((x ∷ []) ∷ []) ((x ∷ []) ∷ []) (ne_eqb x 10 (none 0 (omega arith)))
whole x (y ∷ ys) none =
    cond-false (x == 10) ((x ∷ []) ∷ lines_in (y ∷ ys)) (begin_line x (lines_in (y ∷ ys))) (ne_eqb x 10 (none 0 (omega arith)))
    ∙ ap (begin_line x) (whole y ys (λ k h. none (suc k) (omega arith)))

pub cut_at : (xs front back : List ℕ) (i : ℕ) → i < length xs → get_or xs i 0 ≡ 10 → ((k : ℕ) → k < i → get_or xs k 0 ≡ 10 → ⊥) → front ≡ take (i + 1) xs → back ≡ drop (i + 1) xs → lines_in xs ≡ front ∷ lines_in back
cut_at xs front back i lt at before is_front is_back = rw (is_front, is_back, add-one) (found xs i lt at before)

pub uncut : (xs : List ℕ) → length xs ≢ 0 → ((k : ℕ) → k < length xs → get_or xs k 0 ≡ 10 → ⊥) → lines_in xs ≡ xs ∷ lines_in []
unfolding lines_in
uncut [] some none = absurd (some refl)
uncut (x ∷ xs) some none = whole x xs none

-- what is passed over is told by the front of a line, which a line feed follows
pub empty_passed : (last : ℕ) → last ≡ 10 → is_passed_over (last ∷ []) ≡ true
empty_passed last e = eq-eqb last 10 e

pub first_tells : (b last : ℕ) (bs : List ℕ) → is_passed_over ((b ∷ bs) ++ last ∷ []) ≡ (b == 35)
first_tells b last [] = refl
first_tells b last (c ∷ bs) = refl

pub passes_not : (bytes line : List ℕ) (b : ℕ) → bytes ≡ line ++ 10 ∷ [] → Some b ≡ slice_get line 0 → b ≢ 35 → is_passed_over bytes ≡ false
passes_not bytes [] b is first other = absurd (let none : Some b ≡ None = first in cc)
passes_not bytes (x ∷ xs) b is first other = ap is_passed_over is ∙ first_tells x 10 xs ∙ ap (λ (y : ℕ). y == 35) (sym (same_Some b x first)) ∙ ne_eqb b 35 other
