-- On the first number without a mark.
use Rattle.std.proofs.Common.{◌≡◌, ◌∙◌, sym, ap, refl, ℕ, zero, suc, ◌+◌, ◌<◌, ◌≤◌, Bool, true, false, List, Option, Some, None, length, arith, ⊎_elim}
use Rattle.std.specs.Prelude.{not, ◌==◌, slice_index, if◌then◌else◌}
use Rattle.std.specs.List.{find, range_with_len}
use Rattle.std.proofs.lemmas.Bool.{cases_Bool, cases_eq}
use Rattle.memchr.specs.Find.{IsFirstByte, is_byte}
use Rattle.http_response.specs.Marks.{is_marked}

-- no number in the range passes
pub find_none : (p : ℕ → Bool) (a n : ℕ) → ((k : ℕ) → a ≤ k → k < a + n → p k ≡ false) → find p (range_with_len a n) ≡ None
find_none p a zero none = refl
find_none p a (suc n) none =
    ap (λ t. if t then Some a else find p (range_with_len (a + 1) n)) (none a (omega arith) (omega arith))
    ∙ find_none p (a + 1) n (λ k low high. none k (omega (arith, low)) (omega (arith, high)))

-- the first that passes is found
pub find_first : (p : ℕ → Bool) (a n k : ℕ) → a ≤ k → k < a + n → p k ≡ true → ((j : ℕ) → a ≤ j → j < k → p j ≡ false)
    → find p (range_with_len a n) ≡ Some k
find_first p a zero k low high passes none = absurd (omega (arith, low, high))
find_first p a (suc n) k low high passes none =
    ⊎_elim
    (λ (here : a ≡ k).
    ap (λ t. if t then Some a else find p (range_with_len (a + 1) n)) (ap p here ∙ passes) ∙ ap (λ x. Some x) here)
    (λ (behind : a ≡ k → ⊥).
    ap (λ t. if t then Some a else find p (range_with_len (a + 1) n)) (none a (omega arith) (omega (arith, low, behind)))
    ∙ find_first p (a + 1) n k (omega (arith, low, behind)) (omega (arith, high)) passes (λ j from lt. none j (omega (arith, from)) lt))
    (cases_eq a k)

not_not : (b : Bool) → not (not b) ≡ b
not_not true = refl
not_not false = refl

-- the first byte without a mark stands at the first number that is free
pub first_free : (marks : List ℕ) (p : ℕ → Bool) → ((n : ℕ) → n < length marks → not (is_marked marks n) ≡ p n)
    → (r : Option ℕ) → IsFirstByte (is_byte 0) marks r → r ≡ find p (range_with_len 0 (length marks))
first_free marks p free None none =
    sym (find_none p 0 (length marks) (λ k low high.
    ⊎_elim
    (λ (passes : (slice_index marks k == 0) ≡ true). absurd (none k low (omega (arith, high)) passes))
    (λ (no : (slice_index marks k == 0) ≡ false). sym (free k (omega (arith, high))) ∙ (not_not (slice_index marks k == 0) ∙ no))
    (cases_Bool (slice_index marks k == 0))))
first_free marks p free (Some k) first =
    sym (find_first p 0 (length marks) k (omega arith) (omega (arith, first.0.high))
    (sym (free k first.0.high) ∙ (not_not (slice_index marks k == 0) ∙ first.1))
    (λ j low lt.
    ⊎_elim
    (λ (passes : (slice_index marks j == 0) ≡ true). absurd (first.0.before j low lt passes))
    (λ (no : (slice_index marks j == 0) ≡ false). sym (free j (omega (arith, lt, first.0.high))) ∙ (not_not (slice_index marks j == 0) ∙ no))
    (cases_Bool (slice_index marks j == 0))))
