-- Whether a client has what would be shown, by the entity tags that it lists (RFC 9110, 13.1.2).
use Rattle.std.specs.Prelude.{ℕ, Bool, ◌||◌, ◌==◌, ◌++◌, bytes_eq, List, codes}
use Rattle.std.specs.List.{list_any, slice_split}

-- commas and blanks stand between the tags of a list
abbrev pub is_between : ℕ → Bool
is_between b = (b == 44) || (b == 32) || (b == 9)

-- two tags are compared without the mark of a weak one (RFC 9110, 8.8.3.2)
abbrev pub is_tag : List ℕ → List ℕ → Bool
is_tag tag part = bytes_eq part tag || bytes_eq part (codes "W/" ++ tag)

-- the list has the tag, or `*` stands for whatever there is
abbrev pub lists_tag : List ℕ → List ℕ → Bool
lists_tag list tag = bytes_eq list (codes "*") || list_any (is_tag tag) (slice_split is_between list)
