-- On numbers that bytes begin with.
use Rattle.std.proofs.Common.{◌≡◌, ◌∙◌, sym, ap, refl, ℕ, zero, suc, ◌+◌, ◌-◌, ◌*◌, ◌/◌, ◌%◌, ◌^◌, ◌<◌, ◌≤◌, Bool, true, false, List, [], ◌∷◌, ◌++◌, length, get_or, set, take, drop, arith, ⊎_elim, subst, length-set}
use Rattle.std.specs.Prelude.{◌||◌, ◌&&◌, ◌==◌, nat_eq, nat_le, decimal, not}
use Rattle.std.specs.List.{starts_with}
use Rattle.std.specs.Char.{digit_value}
use Rattle.std.specs.Int.{IsInRange}
use Rattle.std.specs.Str.Parse.{AllDigits, digits_value}
use Rattle.std.proofs.Math.Bool.{or-false, or_assoc}
use Rattle.std.proofs.lemmas.Bool.{cases_Bool, cases_eq, cases_lt, eq-eqb, ne_eqb, and_from, and_left, and_right, le-leb, lt-leb}
use Rattle.std.proofs.lemmas.Bool.Decides.{nat_tests}
use Rattle.std.proofs.lemmas.Fmt.{decimal_nonempty, decimal_digit, decimal_step, decimal_injective, decimal_is_IsNumeral, first_decimal}
use Rattle.std.proofs.lemmas.Int.Digits.{digits_value_more}
use Rattle.std.proofs.lemmas.List.{take_more, take-append-le, take-append-drop, length-take, get_or-set_same, get_or-set_other}
use Rattle.std.proofs.lemmas.List.Prefix.{front_fits, front_reads}
use Rattle.std.proofs.lemmas.Str.{digit_value_digit}
use Rattle.std.proofs.lemmas.Str.Parse.{digit_from_value, digits_value-take-le}
use Rattle.std.proofs.Math.Seq.{take-append_seam}
use Rattle.http_response.specs.Marks.{is_marked, Marked}
use Rattle.http_response.proofs.Delimiters.{begins_is, begins_from}

-- the number is spelled by one of the first so many fronts of the bytes
abbrev pub is_short_front : List ℕ → ℕ → ℕ → Bool
is_short_front bytes i n = nat_le (length (decimal n)) i && starts_with nat_eq bytes (decimal n)

-- no number has no digits
pub no_front : (bytes : List ℕ) (n : ℕ) → n < 2 ^ 64 → is_short_front bytes 0 n ≡ false
no_front bytes n small = and_left _ _ (lt-leb (length (decimal n)) 0 (decimal_nonempty n small))

or_true : (b : Bool) → (b || true) ≡ true
or_true true = refl
or_true false = refl

none_taken : (xs : List ℕ) → take 0 xs ≡ []
none_taken [] = refl
none_taken (x ∷ xs) = refl

le_next : (a i : ℕ) → (a ≡ i + 1 → ⊥) → nat_le a (i + 1) ≡ nat_le a i
le_next a i other = grind (arith, nat_tests)

-- a number and those with fewer digits
pub next_front : (bytes : List ℕ) (i n longer : ℕ) → i < length bytes → n < 2 ^ 64 → longer < 2 ^ 64 → decimal longer ≡ take (i + 1) bytes
    → is_short_front bytes (i + 1) n ≡ (is_short_front bytes i n || (n == longer))
next_front bytes i n longer inside small fits spelled =
    let begins = starts_with nat_eq bytes (decimal n) in
    ⊎_elim
    (λ (same : n ≡ longer).
    let e : decimal n ≡ take (i + 1) bytes = ap decimal same ∙ spelled in
    and_from _ _ (le-leb (length (decimal n)) (i + 1) (omega (arith, ap length e, length-take (i + 1) bytes)))
    (begins_from bytes (decimal n) (drop (i + 1) bytes) (sym (take-append-drop (i + 1) bytes) ∙ ap (λ l. l ++ drop (i + 1) bytes) (sym e)))
    ∙ sym (ap (λ t. is_short_front bytes i n || t) (eq-eqb n longer same) ∙ or_true (is_short_front bytes i n)))
    (λ (other : n ≡ longer → ⊥).
    ⊎_elim
    (λ (yes : begins ≡ true).
    let is = begins_is bytes (decimal n) yes in
    ap (λ t. t && begins) (le_next (length (decimal n)) i (λ len.
    other (sym (decimal_injective longer n fits small
    (spelled ∙ (ap (λ k. take k bytes) (sym len) ∙ (ap (take (length (decimal n))) is ∙ take-append_seam (decimal n) _)))))))
    ∙ sym (or-false (is_short_front bytes i n)))
    (λ (no : begins ≡ false). and_right (nat_le (length (decimal n)) (i + 1)) begins no ∙ sym (ap (λ t. t || false) (and_right (nat_le (length (decimal n)) i) begins no)))
    (cases_Bool begins)
    ∙ ap (λ t. is_short_front bytes i n || t) (sym (ne_eqb n longer other)))
    (cases_eq n longer)

-- one digit more is one more digit of the number
pub next_spelled : (bytes : List ℕ) (i n longer : ℕ) → i < length bytes → IsInRange 48 57 (get_or bytes i 0)
    → (i ≡ 0 → n ≡ 0) → (0 < i → decimal n ≡ take i bytes) → (0 < i → 0 < n) → longer < 2 ^ 64
    → longer ≡ n * 10 + (get_or bytes i 0 - 48) → decimal longer ≡ take (i + 1) bytes
next_spelled bytes i n longer inside digit none spelled some fits is =
    ⊎_elim
    (λ (zero_digits : i ≡ 0).
    let first : n ≡ 0 = none zero_digits in
    let byte : 48 + longer ≡ get_or bytes i 0 = omega arith in
    decimal_digit longer (omega arith)
    ∙ (ap (λ b. b ∷ []) byte
    ∙ sym (take_more bytes i 0 inside ∙ ap (λ l. l ++ get_or bytes i 0 ∷ []) (ap (λ k. take k bytes) zero_digits ∙ none_taken bytes))))
    (λ (digits : i ≡ 0 → ⊥).
    let above : 0 < i = omega arith in
    let positive : 0 < n = some above in
    let front : longer / 10 ≡ n = omega arith in
    let byte : 48 + longer % 10 ≡ get_or bytes i 0 = omega arith in
    decimal_step longer (omega arith) fits
    ∙ (ap (λ k. decimal k ++ (48 + longer % 10) ∷ []) front
    ∙ (ap (λ b. decimal n ++ b ∷ []) byte
    ∙ (ap (λ l. l ++ get_or bytes i 0 ∷ []) (spelled above)
    ∙ sym (take_more bytes i 0 inside)))))
    (cases_eq i 0)

-- a mark more
pub with_mark : (marks : List ℕ) (i n : ℕ) → i < length marks → is_marked (set marks i 1) n ≡ (is_marked marks n || (n == i))
with_mark marks i n inside =
    ⊎_elim
    (λ (same : n ≡ i).
    ap (λ b. not (b == 0)) (ap (λ k. get_or (set marks i 1) k 0) same ∙ get_or-set_same marks i 1 0 inside)
    ∙ sym (ap (λ t. is_marked marks n || t) (eq-eqb n i same) ∙ or_true (is_marked marks n)))
    (λ (other : n ≡ i → ⊥).
    ap (λ b. not (b == 0)) (get_or-set_other marks i n 1 0 other)
    ∙ sym (ap (λ t. is_marked marks n || t) (ne_eqb n i other) ∙ or-false (is_marked marks n)))
    (cases_eq n i)

-- numbers that have no more digits than were looked at
pub all_fronts : (bytes : List ℕ) (i n : ℕ) → (starts_with nat_eq bytes (decimal n) ≡ true → length (decimal n) ≤ i)
    → is_short_front bytes i n ≡ starts_with nat_eq bytes (decimal n)
all_fronts bytes i n short =
    ⊎_elim (λ yes. ap (λ t. t && starts_with nat_eq bytes (decimal n)) (le-leb _ _ (short yes))) (λ no. and_right _ _ no ∙ sym no)
    (cases_Bool (starts_with nat_eq bytes (decimal n)))

-- at the end of the bytes
pub short_at_end : (bytes : List ℕ) (i n : ℕ) → length bytes ≤ i → starts_with nat_eq bytes (decimal n) ≡ true → length (decimal n) ≤ i
short_at_end bytes i n all e = omega (arith, all, front_fits bytes (decimal n) _ (begins_is bytes (decimal n) e))

digit_at : (ds : List ℕ) (i : ℕ) → i < length ds → AllDigits 10 ds → digit_value (get_or ds i 0) < 10
digit_at [] i inside all = absurd (omega (arith, inside))
digit_at (d ∷ ds) zero inside all = all.0
digit_at (d ∷ ds) (suc i) inside all = digit_at ds i (omega (arith, inside)) all.1

-- where no digit follows, or one follows zero
pub short_at_other : (bytes : List ℕ) (i n m : ℕ) → (IsInRange 48 57 (get_or bytes i 0) → (0 < i) × (n ≡ 0)) → (0 < i → decimal n ≡ take i bytes)
    → m < 2 ^ 64 → starts_with nat_eq bytes (decimal m) ≡ true → length (decimal m) ≤ i
short_at_other bytes i n m none spelled small e =
    ⊎_elim
    (λ (longer : i < length (decimal m)).
    let is = begins_is bytes (decimal m) e in
    let reads = front_reads 0 bytes (decimal m) (drop (length (decimal m)) bytes) is in
    let digit = digit_from_value _ (digit_at (decimal m) i longer (decimal_is_IsNumeral m small).0.1) in
    let lone = none (subst (IsInRange 48 57) (sym (reads i longer)) digit) in
    let zero_first : decimal m ≡ 48 ∷ [] → ⊥ = λ short. absurd (omega (arith, lone.0, longer, ap length short)) in
    let first : get_or bytes 0 0 ≡ 48 =
    ap (λ l. get_or l 0 0) (sym (take-append-drop i bytes) ∙ ap (λ l. l ++ drop i bytes) (sym (spelled lone.0) ∙ (ap decimal lone.1 ∙ decimal_digit 0 (omega arith)))) in
    ⊎_elim
    (λ (zero_number : m ≡ 0). absurd (zero_first (ap decimal zero_number ∙ decimal_digit 0 (omega arith))))
    (λ (other : m ≡ 0 → ⊥). absurd (omega (arith, first_decimal m (omega arith) small, reads 0 (omega (arith, longer)), first)))
    (cases_eq m 0))
    (λ (short : length (decimal m) ≤ i). short)
    (cases_lt i (length (decimal m)))

-- where the digits spell more than any number that is asked about
pub short_at_large : (bytes : List ℕ) (i n m longer : ℕ) → i < length bytes → n ≡ digits_value 10 (take i bytes) → IsInRange 48 57 (get_or bytes i 0)
    → longer ≤ n * 10 + (get_or bytes i 0 - 48) → m < longer → m < 2 ^ 64 → starts_with nat_eq bytes (decimal m) ≡ true → length (decimal m) ≤ i
short_at_large bytes i n m longer inside value digit large below small e =
    ⊎_elim
    (λ (more : i < length (decimal m)).
    let is = begins_is bytes (decimal m) e in
    let front : take (i + 1) bytes ≡ take (i + 1) (decimal m) = ap (take (i + 1)) is ∙ take-append-le (i + 1) (decimal m) _ (omega (arith, more)) in
    absurd (omega (
      arith,
      ap (digits_value 10) front,
      digits_value_more 10 bytes i inside,
      digit_value_digit (get_or bytes i 0) digit,
      digits_value-take-le 10 (decimal m) (i + 1) (omega arith),
      (decimal_is_IsNumeral m small).1,
    )))
    (λ (short : length (decimal m) ≤ i). short)
    (cases_lt i (length (decimal m)))

-- all marks are made
pub all_marked : (old new bytes : List ℕ) (i : ℕ) → Marked old new (is_short_front bytes i)
    → ((n : ℕ) → n < length old → starts_with nat_eq bytes (decimal n) ≡ true → length (decimal n) ≤ i)
    → Marked old new (λ n. starts_with nat_eq bytes (decimal n))
all_marked old new bytes i so_far short = record {
  kept = so_far.kept;
  marks = λ n lt. so_far.marks n lt ∙ ap (λ t. is_marked old n || t) (all_fronts bytes i n (short n lt));
}

-- no mark is made yet
pub none_marked : (old bytes : List ℕ) → length old < 2 ^ 64 → Marked old old (is_short_front bytes 0)
none_marked old bytes fits = record {
  kept = refl;
  marks = λ n lt. sym (ap (λ t. is_marked old n || t) (no_front bytes n (omega (arith, lt, fits))) ∙ or-false (is_marked old n));
}

-- one mark more
pub next_marked : (old new bytes : List ℕ) (i longer : ℕ) → i < length bytes → length old < 2 ^ 64 → longer < length new
    → decimal longer ≡ take (i + 1) bytes → Marked old new (is_short_front bytes i)
    → Marked old (set new longer 1) (is_short_front bytes (i + 1))
next_marked old new bytes i longer inside fits below spelled so_far = record {
  kept = length-set new longer 1 ∙ so_far.kept;
  marks = λ n lt.
      with_mark new longer n below
      ∙ (ap (λ t. t || (n == longer)) (so_far.marks n lt)
      ∙ (or_assoc (is_marked old n) (is_short_front bytes i n) (n == longer)
      ∙ ap (λ t. is_marked old n || t) (sym (next_front bytes i n longer inside (omega (arith, lt, fits)) (omega (arith, below, fits, so_far.kept)) spelled))));
}
