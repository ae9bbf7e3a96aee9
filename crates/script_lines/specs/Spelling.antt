-- What a line is taken for (this store's profile).
use Rattle.std.specs.Prelude.{◌≡◌, ◌≢◌, ◌⊎◌, ◌++◌, ℕ, List, [], ◌∷◌, true, false, Ok, Err}
use Rattle.script_lines.specs.Lines.{is_passed_over, words_in}
use Rattle.script_lines.specs.Grammar.{IsRead}
use Rattle.script_lines.specs.declared.bad.Misspelling.TheVariants.{NoLineFeed}
use Rattle.script_lines.specs.declared.line.Spelling.{Spelling}
use Rattle.script_lines.specs.declared.line.Spelling.TheVariants.{PassedOver, Line, Bad}

-- what is passed over is an empty line or a comment, and what asks for something is neither
abbrev pub Spells : List ℕ → Spelling → Type 0
Spells bytes PassedOver = is_passed_over bytes ≡ true
Spells bytes (Line line) = is_passed_over bytes ≡ false
Spells bytes (Bad bad) = Unit {0}

-- no line feed ends it
abbrev pub IsUnended : List ℕ → Type 0
IsUnended bytes = (text : List ℕ) → bytes ≢ text ++ 10 ∷ []

-- A line that asks for something has these words and no others, each what its place asks for. A bad one isn't ended, or is neither empty nor a comment, and this
-- is what is wrong with its words first. What is passed over is ended, too.
abbrev pub IsSpelling : List ℕ → Spelling → Type 0
IsSpelling bytes PassedOver = (text : List ℕ) × (bytes ≡ text ++ 10 ∷ [])
IsSpelling bytes (Line line) = (text : List ℕ) × (bytes ≡ text ++ 10 ∷ []) × IsRead (words_in text) (Ok line)
IsSpelling bytes (Bad why) = ((why ≡ NoLineFeed) × IsUnended bytes) ⊎ ((text : List ℕ) × (bytes ≡ text ++ 10 ∷ []) × (is_passed_over bytes ≡ false) × IsRead (words_in text) (Err why))
