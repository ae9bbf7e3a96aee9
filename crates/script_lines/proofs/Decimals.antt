-- What the words of numbers spell.
use Rattle.std.proofs.Common.{◌≡◌, ◌≢◌, ℕ, zero, suc, ◌+◌, ◌*◌, ◌<◌, ◌≤◌, ◌^◌, List, [], ◌∷◌, length, get_or, take, refl, sym, ap, subst, ◌∙◌, arith, rules, inl, inr}
use Rattle.std.proofs.lemmas.List.{take_all}
use Rattle.std.specs.Prelude.{◌==◌, ◌&&◌, ◌||◌, Bool, true, false, nat_lt, not, decimal}
use Rattle.std.specs.Char.{digit_value, is_ascii_digit}
use Rattle.std.specs.List.{list_all}
use Rattle.std.specs.Str.Parse.{digits_value}
use Rattle.std.proofs.lemmas.Bool.{cases_eq}
use Rattle.std.proofs.lemmas.Bool.Decides.{nat_tests}
use Rattle.std.proofs.lemmas.Fmt.{decimal_nonempty, decimal-digits_value, digits_decimal, digits_value-decimal, first_decimal, decimal_digit}
use Rattle.std.proofs.lemmas.Int.Digits.{digits_value_more}
use Rattle.std.proofs.lemmas.Str.Parse.{IsNumeralModel, digits_value-take-le, numerals_by_value}
use Rattle.script_lines.specs.Lines.{is_decimal, is_number}

-- texts of digits, as a test tells them
own : IsNumeralModel (λ ds. list_all is_ascii_digit ds ≡ true) (digits_value 10)
own = numerals_by_value (λ ds. list_all is_ascii_digit ds ≡ true) (search rules)

-- both of two tests that hold together
pub both_hold : (a b : Bool) → (a && b) ≡ true → (a ≡ true) × (b ≡ true)
both_hold true b e = (refl, e)
both_hold false b e = absurd (search (e, rules))

-- a test of all holds of each
all_at : (p : ℕ → Bool) (xs : List ℕ) (i : ℕ) → i < length xs → list_all p xs ≡ true → p (get_or xs i 0) ≡ true
all_at p [] i lt e = absurd (omega (arith, lt))
all_at p (x ∷ xs) zero lt e = (both_hold (p x) (list_all p xs) e).0
all_at p (x ∷ xs) (suc i) lt e = all_at p xs i (omega (arith, lt)) (both_hold (p x) (list_all p xs) e).1

-- a decimal has digits alone
pub are_digits : (word : List ℕ) → is_decimal word ≡ true → list_all is_ascii_digit word ≡ true
are_digits word e = (both_hold (nat_lt 0 (length word)) (list_all is_ascii_digit word) (both_hold (is_number word) _ e).0).1

pub digit_at : (word : List ℕ) (i : ℕ) → is_decimal word ≡ true → i < length word → is_ascii_digit (get_or word i 0) ≡ true
digit_at word i is inside = all_at is_ascii_digit word i inside (are_digits word is)

some_digits : (word : List ℕ) → is_decimal word ≡ true → 0 < length word
some_digits [] e = absurd (let no : false ≡ true = e in cc)
some_digits (c ∷ cs) e = omega arith

one_or_other : (n c : ℕ) → ((n == 1) || not (c == 48)) ≡ true → c ≡ 48 → n ≡ 1
one_or_other n c e is = grind (arith, nat_tests)

zero_alone : (word : List ℕ) → is_decimal word ≡ true → get_or word 0 0 ≡ 48 → length word ≡ 1
zero_alone word e first = one_or_other (length word) (get_or word 0 0) (both_hold (is_number word) ((length word == 1) || not (get_or word 0 0 == 48)) e).1 first

-- a decimal is what is written of its value
pub is_written : (word : List ℕ) (n : ℕ) → is_decimal word ≡ true → n ≡ digits_value 10 word → n < 2 ^ 64 → word ≡ decimal n
is_written word n is value small =
    sym (ap decimal value ∙ decimal-digits_value own word (are_digits word is) (some_digits word is) (zero_alone word is) (subst (λ (m : ℕ). m < 2 ^ 64) value small))

-- what is written of a number is a decimal
decimal_of : (word : List ℕ) → list_all is_ascii_digit word ≡ true → 0 < length word → (get_or word 0 0 ≡ 48 → length word ≡ 1) → is_decimal word ≡ true
decimal_of word all some one = both (nat_lt 0 (length word) && list_all is_ascii_digit word) ((length word == 1) || not (get_or word 0 0 == 48)) (both (nat_lt 0 (length word)) (list_all is_ascii_digit word) (grind (arith, nat_tests)) all) (either (length word) (get_or word 0 0) one)
  where
    both : (a b : Bool) → a ≡ true → b ≡ true → (a && b) ≡ true
    both true b e f = f
    both false b e f = absurd (let no : false ≡ true = e in cc)

    either : (n c : ℕ) → (c ≡ 48 → n ≡ 1) → ((n == 1) || not (c == 48)) ≡ true
    either n c imp = elim (cases_eq c 48) [
      | inl is ↦ (let m = imp is in grind (arith, nat_tests))
      | inr not ↦ grind (arith, nat_tests)
    ]

alone : (n : ℕ) → n < 2 ^ 64 → get_or (decimal n) 0 0 ≡ 48 → length (decimal n) ≡ 1
alone zero small first = ap length (decimal_digit 0 (omega arith))
alone (suc n) small first = absurd (let more = first_decimal (suc n) (omega arith) small in omega (arith, more, first))

pub written_is : (n : ℕ) → n < 2 ^ 64 → is_decimal (decimal n) ≡ true
written_is n small = decimal_of (decimal n) (digits_decimal own n small) (decimal_nonempty n small) (alone n small)

-- what is no decimal is written of no number
pub not_written : (word : List ℕ) (b : Bool) → b ≡ is_decimal word → b ≡ false → (n : ℕ) → n < 2 ^ 64 → word ≢ decimal n
not_written word b told isnt n small same = let clash : false ≡ true = sym isnt ∙ told ∙ ap is_decimal same ∙ written_is n small in cc

-- one digit more
pub next_value : (ds : List ℕ) (i n : ℕ) → i < length ds → n ≡ digits_value 10 (take i ds) → digits_value 10 (take (i + 1) ds) ≡ n * 10 + digit_value (get_or ds i 0)
next_value ds i n inside e = rw (digits_value_more 10 ds i inside, e) refl

-- where one digit more is past all numbers, the word is written of none
pub past_limit : (word : List ℕ) (i n : ℕ) → i < length word → n ≡ digits_value 10 (take i word) → 2 ^ 64 ≤ n * 10 + digit_value (get_or word i 0) → (m : ℕ) → m < 2 ^ 64 → word ≢ decimal m
past_limit word i n inside is past m small same =
    let value : digits_value 10 word ≡ m = ap (digits_value 10) same ∙ digits_value-decimal own m small in
    let front = digits_value-take-le 10 word (i + 1) (omega arith) in
    let next = next_value word i n inside is in
    omega (arith, past, small, value, front, next)

-- all digits
pub whole_value : (word : List ℕ) (i n : ℕ) → i ≡ length word → n ≡ digits_value 10 (take i word) → n ≡ digits_value 10 word
whole_value word i n all is = is ∙ ap (digits_value 10) (take_all i word (omega (arith, all)))

-- what a decimal is worth
pub value_of : (word : List ℕ) (n : ℕ) → n < 2 ^ 64 → word ≡ decimal n → digits_value 10 word ≡ n
value_of word n small is = ap (digits_value 10) is ∙ digits_value-decimal own n small
