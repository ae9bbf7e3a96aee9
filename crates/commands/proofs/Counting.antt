-- The number that a decimal spells.
use Rattle.std.proofs.Common.{◌≡◌, ℕ, ◌^◌, ◌-◌, ◌<◌, List, [], ◌∷◌, arith, rules, refl, ap, sym, ◌∙◌}
use Rattle.std.specs.Prelude.{◌==◌, ◌&&◌, not, min, nat_eq, nat_lt, Bool, true, false, if◌then◌else◌, None, Some, Result, Ok, Err, codes}
use Rattle.std.specs.Char.{is_ascii_digit}
use Rattle.std.specs.List.{list_all}
use Rattle.std.specs.Result.{OkIff, result_ok, result_unwrap_or}
use Rattle.std.specs.Str.Parse.{ParsesUnsigned, digits_value}
use Rattle.std.specs.Cmp.Lexicographic.{pointwise}
use Rattle.std.proofs.lemmas.Bool.{true≢false, ltb-true, lt-ltb}
use Rattle.std.proofs.lemmas.Str.Parse.{IsNumeralModel, numerals_by_value, parse_digits}
use Rattle.commands.specs.Words.{count_of, is_count, vnode_of}

digits : IsNumeralModel (λ ds. list_all is_ascii_digit ds ≡ true) (digits_value 10)
digits = numerals_by_value _ (search rules)

second : (a b : Bool) → (a && b) ≡ true → b ≡ true
second true b e = e
second false b e = absurd (true≢false (sym e))

-- a count is read where it is below 2^32
read : (E : Type 0) (bs : List ℕ) (r : Result ℕ E) → is_count bs ≡ true → ParsesUnsigned 32 10 bs r → OkIff r (digits_value 10 bs < 2 ^ 32) (digits_value 10 bs)
read E [] r is parsed = absurd (true≢false (sym is))
read E (b ∷ bs) (Ok n) is parsed =
    let spelt = parse_digits digits {E = E} 32 (b ∷ bs) (Ok n) parsed (second (not (b == 48)) (list_all is_ascii_digit (b ∷ bs)) is) in
    (spelt.0.1, spelt.1)
read E (b ∷ bs) (Err e) is parsed =
    let none = parse_digits digits {E = E} 32 (b ∷ bs) (Err e) parsed (second (not (b == 48)) (list_all is_ascii_digit (b ∷ bs)) is) in
    λ low. none (omega arith, low)

counted_by : (E : Type 0) (v : ℕ) (is low : Bool) (r : Result ℕ E) → is ≡ true → low ≡ nat_lt v (2 ^ 32) → OkIff r (v < 2 ^ 32) v → result_ok r ≡ (if is && low then Some v else None)
counted_by E v true true (Ok n) is below x = ap Some x.1
counted_by E v true false (Ok n) is below x = absurd (true≢false (sym (below ∙ lt-ltb v (2 ^ 32) x.0)))
counted_by E v true true (Err e) is below x = absurd (x (ltb-true v (2 ^ 32) (sym below)))
counted_by E v true false (Err e) is below x = refl
counted_by E v false low r is below x = absurd (true≢false (sym is))

pub counted : (E : Type 0) (bs : List ℕ) (r : Result ℕ E) → is_count bs ≡ true → ParsesUnsigned 32 10 bs r → result_ok r ≡ count_of bs
counted E bs r is parsed = counted_by E (digits_value 10 bs) (is_count bs) (nat_lt (digits_value 10 bs) (2 ^ 32)) r is refl (read E bs r is parsed)

-- one past 2^32 - 1 counts as that
kept_below : (E : Type 0) (v u : ℕ) (r : Result ℕ E) → OkIff r (v < 2 ^ 32) v → u ≡ result_unwrap_or r (2 ^ 32 - 1) → u ≡ min v (2 ^ 32 - 1)
kept_below E v u (Ok n) x is = grind (arith, x.0, x.1, is)
kept_below E v u (Err e) x is = grind (arith, x, is)

named_by : (zero is : Bool) (u v : ℕ) → zero ≡ false → is ≡ true → u ≡ v → Some u ≡ (if zero then Some 0 else (if is then Some v else None))
named_by false true u v z i e = ap Some e
named_by true is u v z i e = absurd (true≢false z)
named_by false false u v z i e = absurd (true≢false (sym i))

pub named : (E : Type 0) (bs : List ℕ) (u : ℕ) (r : Result ℕ E) → pointwise nat_eq bs (codes "0") ≡ false → is_count bs ≡ true → ParsesUnsigned 32 10 bs r → u ≡ result_unwrap_or r (2 ^ 32 - 1) → Some u ≡ vnode_of bs
named E bs u r zero is parsed unwrapped =
    named_by (pointwise nat_eq bs (codes "0")) (is_count bs) u (min (digits_value 10 bs) (2 ^ 32 - 1)) zero is (kept_below E (digits_value 10 bs) u r (read E bs r is parsed) unwrapped)
