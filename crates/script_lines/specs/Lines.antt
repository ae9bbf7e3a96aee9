-- How a script is parted into lines, and what its words are (this store's profile).
use Rattle.std.specs.Prelude.{ℕ, ◌==◌, ◌&&◌, ◌||◌, nat_le, nat_lt, not, Bool, false, if◌then◌else◌, List, [], ◌∷◌, length, slice_index}
use Rattle.std.specs.List.{list_all}
use Rattle.std.specs.Char.{is_ascii_alphanumeric, is_ascii_digit}

-- a key, a value or a name: 1 to 64 letters and digits
abbrev pub is_word : List ℕ → Bool
is_word [] = false
is_word (c ∷ cs) = if nat_le (length (c ∷ cs)) 64 then list_all is_ascii_alphanumeric (c ∷ cs) else false

-- one or more digits
abbrev pub is_number : List ℕ → Bool
is_number word = nat_lt 0 (length word) && list_all is_ascii_digit word

-- a decimal without sign and leading zeros
abbrev pub is_decimal : List ℕ → Bool
is_decimal word = is_number word && ((length word == 1) || not (slice_index word 0 == 48))

-- a byte before the first of some lines
abbrev pub begin_line : ℕ → List (List ℕ) → List (List ℕ)
begin_line b [] = (b ∷ []) ∷ []
begin_line b (line ∷ lines) = (b ∷ line) ∷ lines

-- the lines of some bytes, each with the line feed that ends it; the last may have none
unfoldable pub lines_in : List ℕ → List (List ℕ)
lines_in [] = []
lines_in (b ∷ bs) = if b == 10 then (b ∷ []) ∷ lines_in bs else begin_line b (lines_in bs)

-- the words of a line, which are parted by one space
unfoldable pub words_in : List ℕ → List (List ℕ)
words_in [] = [] ∷ []
words_in (b ∷ bs) = if b == 32 then [] ∷ words_in bs else begin_line b (words_in bs)

-- an empty line, or a comment, which begins with '#'
abbrev pub is_passed_over : List ℕ → Bool
is_passed_over [] = false
is_passed_over (b ∷ []) = b == 10
is_passed_over (b ∷ c ∷ bs) = b == 35
