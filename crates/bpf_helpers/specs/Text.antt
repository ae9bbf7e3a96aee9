-- What the written helpers answer of texts (this store's profile).
use Rattle.std.specs.Prelude.{ℕ, ◌+◌, ◌-◌, ◌^◌, Bool, true, false, ◌&&◌, ◌==◌, nat_le, List, [], ◌∷◌, length, position, if◌then◌else◌}
use Rattle.std.specs.Ordering.{nat_cmp}
use Rattle.std.specs.Option.{option_map_or}
use Rattle.std.specs.List.{list_all}
use Rattle.std.specs.Char.{is_ascii_digit}
use Rattle.std.specs.Cmp.Lexicographic.{slice_cmp}
use Rattle.std.specs.Str.Parse.{digits_value}
use Rattle.std.specs.declared.cmp.Ordering.{Ordering}
use Rattle.std.specs.declared.cmp.Ordering.TheVariants.{Less, Equal, Greater}

-- the order of two texts by their first byte that differs; of two where one begins the other the shorter is first
abbrev pub order_number : Ordering → ℕ
order_number Less = 0
order_number Equal = 1
order_number Greater = 2

abbrev pub order_of : List ℕ → List ℕ → ℕ
order_of first second = order_number (slice_cmp nat_cmp first second)

-- whether a text begins with a needle
abbrev pub begins_with : List ℕ → List ℕ → Bool
begins_with [] text = true
begins_with (n ∷ needle) [] = false
begins_with (n ∷ needle) (b ∷ text) = n == b && begins_with needle text

-- what is left of a text from each of its places on, its end too
abbrev pub tails : List ℕ → List (List ℕ)
tails [] = [] ∷ []
tails (b ∷ text) = (b ∷ text) ∷ tails text

-- one more than the first place from which on the text begins with the needle, 0 where there is none
abbrev pub place_of : List ℕ → List ℕ → ℕ
place_of text needle = option_map_or (λ k. k + 1) (position (begins_with needle) (tails text)) 0

-- 1 to 19 digits, and no other byte
abbrev pub is_decimal : List ℕ → Bool
is_decimal text = nat_le 1 (length text) && nat_le (length text) 19 && list_all is_ascii_digit text

-- the number that a text spells
abbrev pub spelled : List ℕ → ℕ
spelled text = if is_decimal text then digits_value 10 text else 2 ^ 64 - 1
