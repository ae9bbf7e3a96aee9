-- How the number of a start stands in its folder (this store's profile).
use Rattle.std.specs.Prelude.{◌≡◌, ◌⊎◌, ◌<◌, ◌+◌, ◌*◌, ◌++◌, ◌∷◌, [], ℕ, List, Option, None, Some, codes, decimal}
use Rattle.kept_folder.specs.Seals.{sealed}

-- a line: a word, and a number behind it
abbrev pub line_of : List ℕ → ℕ → List ℕ
line_of word number = word ++ decimal number ++ 10 ∷ []

-- the number of a start, as a line
abbrev pub number_text : ℕ → List ℕ
number_text number = line_of (codes "number ") number

-- how many vnodes have files, as a line; nothing where that isn't told
abbrev pub filed_text : Option ℕ → List ℕ
filed_text None = []
filed_text (Some count) = line_of (codes "vnodes ") count

-- the number of a start, and how many vnodes have files
abbrev pub start_text : ℕ → Option ℕ → List ℕ
start_text number filed = number_text number ++ filed_text filed

-- the number as it stood before identifiers had 8 bits for a vnode's index: the number's upper 16 bits alone, so it is read as the greatest with these
abbrev pub EarlierText : List ℕ → ℕ → Type 0
EarlierText text number = (upper : ℕ) × (text ≡ line_of [] upper) × (number ≡ upper * 256 + 255)

-- what a file says of the last start: its number, and how many vnodes have files; there was none where there is no file
abbrev pub IsLastIn : Option (List ℕ) → Option ℕ → Option ℕ → Type 0
IsLastIn None last filed = (last ≡ None) × (filed ≡ None)
IsLastIn (Some bytes) last filed = (number : ℕ) × (text : List ℕ) × (last ≡ Some number) × (bytes ≡ sealed text)
    × ((text ≡ start_text number filed) ⊎ (EarlierText text number × (filed ≡ None)))

-- the vnode with an index is one of those that have files, as is told
abbrev pub IsFiled : Option ℕ → ℕ → Type 0
IsFiled None index = ⊥
IsFiled (Some count) index = index < count
