-- What the words of a line are told to be.
use Rattle.std.proofs.Common.{◌≡◌, ◌≢◌, ℕ, ◌<◌, ◌^◌, List, refl, sym, ap, subst, ◌∙◌, arith, if◌then◌else◌, None, Some}
use Rattle.std.specs.Prelude.{◌&&◌, Bool, true, false, nat_lt, decimal}
use Rattle.std.specs.Str.{IsUtf8, is_utf8}
use Rattle.std.specs.Str.Parse.{digits_value}
use Rattle.std.proofs.lemmas.Bool.{cond-false, cond-true}
use Rattle.std.proofs.lemmas.Bool.Decides.{nat_tests}
use Rattle.std.proofs.lemmas.Str.{IsUtf8-from_is_utf8, is_utf8-from_IsUtf8}
use Rattle.script_lines.specs.Grammar.{fault_at, is_index, Index, Incarnation, File}
use Rattle.script_lines.specs.Lines.{is_decimal}
use Rattle.script_lines.specs.declared.bad.Misspelling.TheVariants.{NoNumber, NoIncarnation, NoFileName}
use Rattle.script_lines.proofs.Decimals.{both_hold, is_written, value_of, written_is}

-- what never is true is false
isnt : (b : Bool) → (b ≡ true → ⊥) → b ≡ false
isnt true never = absurd (never refl)
isnt false never = refl

both : (a b : Bool) → a ≡ true → b ≡ true → (a && b) ≡ true
both true b e f = f
both false b e f = absurd (let no : false ≡ true = e in cc)

below : (n m : ℕ) → n < m → nat_lt n m ≡ true
below n m small = grind (arith, nat_tests)

is_below : (n m : ℕ) → nat_lt n m ≡ true → n < m
is_below n m e = grind (arith, nat_tests)

-- a decimal is an index, and what no number is written so is none
pub index_of : (word : List ℕ) (n : ℕ) → n < 2 ^ 64 → word ≡ decimal n → is_index word ≡ true
index_of word n small is =
    both (is_decimal word) (nat_lt (digits_value 10 word) (2 ^ 64)) (ap is_decimal is ∙ written_is n small) (below (digits_value 10 word) (2 ^ 64) (subst (λ (m : ℕ). m < 2 ^ 64) (sym (value_of word n small is)) small))

pub no_index : (word : List ℕ) → ((n : ℕ) → n < 2 ^ 64 → word ≢ decimal n) → is_index word ≡ false
no_index word none = isnt (is_index word) (λ e.
    let h = both_hold (is_decimal word) (nat_lt (digits_value 10 word) (2 ^ 64)) e in
    let small = is_below (digits_value 10 word) (2 ^ 64) h.1 in
    none (digits_value 10 word) small (is_written word (digits_value 10 word) h.0 refl small))

pub right_index : (word : List ℕ) (n : ℕ) → n < 2 ^ 64 → word ≡ decimal n → fault_at Index word ≡ None
right_index word n small is = cond-true (is_index word) None (Some NoNumber) (index_of word n small is)

pub wrong_index : (word : List ℕ) → ((n : ℕ) → n < 2 ^ 64 → word ≢ decimal n) → fault_at Index word ≡ Some NoNumber
wrong_index word none = cond-false (is_index word) None (Some NoNumber) (no_index word none)

of_index : (word : List ℕ) (n : ℕ) → n < 2 ^ 64 → word ≡ decimal n → fault_at Incarnation word ≡ (if nat_lt (digits_value 10 word) (2 ^ 16) then None else Some NoIncarnation)
of_index word n small is = cond-true (is_index word) _ _ (index_of word n small is)

pub right_incarnation : (word : List ℕ) (n : ℕ) → n < 2 ^ 16 → word ≡ decimal n → fault_at Incarnation word ≡ None
right_incarnation word n small is =
    let wide : n < 2 ^ 64 = omega (arith, small) in
    of_index word n wide is ∙ cond-true (nat_lt (digits_value 10 word) (2 ^ 16)) None (Some NoIncarnation) (below (digits_value 10 word) (2 ^ 16) (subst (λ (m : ℕ). m < 2 ^ 16) (sym (value_of word n wide is)) small))

pub wrong_incarnation : (word : List ℕ) (n : ℕ) → n < 2 ^ 64 → (n < 2 ^ 16 → ⊥) → word ≡ decimal n → fault_at Incarnation word ≡ Some NoIncarnation
wrong_incarnation word n wide large is =
    of_index word n wide is ∙ cond-false (nat_lt (digits_value 10 word) (2 ^ 16)) None (Some NoIncarnation) (isnt (nat_lt (digits_value 10 word) (2 ^ 16)) (λ e. large (subst (λ (m : ℕ). m < 2 ^ 16) (value_of word n wide is) (is_below (digits_value 10 word) (2 ^ 16) e))))

pub still_no_index : (word : List ℕ) → fault_at Index word ≡ Some NoNumber → fault_at Incarnation word ≡ Some NoNumber
still_no_index word e = go (is_index word) e
  where
    go : (b : Bool) → (if b then None else Some NoNumber) ≡ Some NoNumber → (if b then (if nat_lt (digits_value 10 word) (2 ^ 16) then None else Some NoIncarnation) else Some NoNumber) ≡ Some NoNumber
    go true f = absurd (let no : None ≡ Some NoNumber = f in cc)
    go false f = refl

-- the name of a file is text
pub right_file : (word : List ℕ) → IsUtf8 word → fault_at File word ≡ None
right_file word is = cond-true (is_utf8 word) None (Some NoFileName) (is_utf8-from_IsUtf8 word is)

pub wrong_file : (word : List ℕ) → (IsUtf8 word → ⊥) → fault_at File word ≡ Some NoFileName
wrong_file word isnt_text = cond-false (is_utf8 word) None (Some NoFileName) (isnt (is_utf8 word) (λ e. isnt_text (IsUtf8-from_is_utf8 word e)))
