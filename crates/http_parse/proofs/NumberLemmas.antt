-- On numbers in decimal.
use Rattle.std.proofs.Common.{◌≡◌, ℕ, ◌+◌, ◌*◌, ◌<◌, zero, suc, Bool, true, false, List, [], ◌∷◌, length, get_or, take, Some, None, refl, arith, rules}
use Rattle.std.specs.Prelude.{◌-◌, ◌&&◌, if◌then◌else◌, min, nat_le, nat_lt}
use Rattle.std.proofs.lemmas.Bool.Decides.{nat_tests}
use Rattle.std.proofs.lemmas.Int.Digits.{digits_value_more}
use Rattle.std.specs.Str.Parse.{digits_value}
use Rattle.std.specs.Char.{digit_value}
use Rattle.std.specs.List.{list_all}
use Rattle.http_request.specs.Limits.{longest_body, most_copies}
use Rattle.http_parse.specs.Numbers.{counted, placed}

-- one digit more
pub next_value : (ds : List ℕ) (i n : ℕ) → i < length ds → n ≡ digits_value 10 (take i ds)
    → digits_value 10 (take (i + 1) ds) ≡ n * 10 + digit_value (get_or ds i 0)
next_value ds i n inside e = rw (digits_value_more 10 ds i inside, e) refl

-- a number past the limit of a body is none of copies
pub counted_is : (b : Bool) (v n : ℕ)
    → counted n (if b && nat_le v longest_body then Some v else None) ≡ (if b && nat_le 1 v && nat_le v most_copies then Some (min v n) else None)
counted_is false v n = refl
counted_is true v n = grind (arith, nat_tests)

pub placed_is : (b : Bool) (v n : ℕ)
    → placed n (if b && nat_le v longest_body then Some v else None) ≡ (if b && nat_lt v most_copies then Some (min v (n - 1)) else None)
placed_is false v n = refl
placed_is true v n = grind (arith, nat_tests)

-- both of two tests that hold together
pub both_hold : (a b : Bool) → (a && b) ≡ true → (a ≡ true) × (b ≡ true)
both_hold true b e = (refl, e)
both_hold false b e = absurd (search (e, rules))

-- a test of all holds of each
pub all_at : (p : ℕ → Bool) (xs : List ℕ) (i : ℕ) → i < length xs → list_all p xs ≡ true → p (get_or xs i 0) ≡ true
all_at p [] i lt e = absurd (omega (arith, lt))
all_at p (x ∷ xs) zero lt e = (both_hold (p x) (list_all p xs) e).0
all_at p (x ∷ xs) (suc i) lt e = all_at p xs i (omega (arith, lt)) (both_hold (p x) (list_all p xs) e).1
