-- Bytes up to the last that is not zero.
use Rattle.std.proofs.Common.{◌≡◌, ◌≢◌, ℕ, List, [], ◌∷◌, ◌++◌, length, arith, refl, sym, ap, ◌∙◌, length-append}
use Rattle.std.specs.Prelude.{◌==◌, ◌&&◌, if◌then◌else◌, false}
use Rattle.std.proofs.lemmas.Bool.{ne_eqb, and_left, and_right, cond-false}
use Rattle.commands.specs.Outcome.{up_to_last_set}

pub last_dropped : (xs : List ℕ) → up_to_last_set (xs ++ 0 ∷ []) ≡ up_to_last_set xs
unfolding up_to_last_set
last_dropped [] = refl
last_dropped (x ∷ xs) = ap (λ (rest : List ℕ). if (x == 0) && (length rest == 0) then [] else x ∷ rest) (last_dropped xs)

pub all_kept : (xs : List ℕ) (b : ℕ) → b ≢ 0 → up_to_last_set (xs ++ b ∷ []) ≡ xs ++ b ∷ []
unfolding up_to_last_set
all_kept [] b h =
    let test : (b == 0) && (length {A = ℕ} [] == 0) ≡ false = and_left (b == 0) (length {A = ℕ} [] == 0) (ne_eqb b 0 h) in
    cond-false ((b == 0) && (length {A = ℕ} [] == 0)) [] (b ∷ []) test
all_kept (x ∷ xs) b h =
    let rest : List ℕ = xs ++ b ∷ [] in
    let long : length rest ≢ 0 = λ e. absurd (omega (arith, length-append xs (b ∷ []))) in
    let test : (x == 0) && (length rest == 0) ≡ false = and_right (x == 0) (length rest == 0) (ne_eqb (length rest) 0 long) in
    ap (λ (r : List ℕ). if (x == 0) && (length r == 0) then [] else x ∷ r) (all_kept xs b h)
    ∙ cond-false ((x == 0) && (length rest == 0)) [] (x ∷ rest) test

-- the step of a walk from the end: a zero is passed over, and anything else ends it, as does the beginning
pub passed : (all rest front : List ℕ) (last : ℕ) → up_to_last_set rest ≡ up_to_last_set all → rest ≡ front ++ last ∷ [] → last ≡ 0 → up_to_last_set front ≡ up_to_last_set all
passed all rest front last kept parts zero =
    sym (last_dropped front) ∙ ap (λ b. up_to_last_set (front ++ b ∷ [])) (sym zero) ∙ ap up_to_last_set (sym parts) ∙ kept

pub ended : (all rest front : List ℕ) (last : ℕ) → up_to_last_set rest ≡ up_to_last_set all → rest ≡ front ++ last ∷ [] → last ≢ 0 → rest ≡ up_to_last_set all
ended all rest front last kept parts set = parts ∙ sym (all_kept front last set) ∙ ap up_to_last_set (sym parts) ∙ kept

pub begun : (all rest : List ℕ) → up_to_last_set rest ≡ up_to_last_set all → length rest ≡ 0 → rest ≡ up_to_last_set all
unfolding up_to_last_set
begun all [] kept none = kept
begun all (x ∷ xs) kept none = absurd (omega arith)
