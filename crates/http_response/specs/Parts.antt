-- A multipart body (RFC 2046, section 5.1; Riak KV documentation, siblings).
use Rattle.std.specs.Prelude.{◌≡◌, ℕ, ◌+◌, ◌<◌, Bool, true, false, not, ◌||◌, List, [], ◌∷◌, ◌++◌, length, sum_by, codes, Option, Some, None, unwrap_or}
use Rattle.std.specs.List.{flat_map, list_all, find, range_with_len, starts_with}
use Rattle.std.specs.Prelude.{nat_eq, decimal}
use Rattle.dvv.specs.declared.Dot.{Dot}
use Rattle.key_state.specs.declared.content.Content.{Content}
use Rattle.key_state.specs.declared.content.Content.TheVariants.{Value, Tombstone}
use Rattle.key_state.specs.declared.content.Sibling.{Sibling}

-- the end of a line
abbrev pub line : List ℕ → List ℕ
line text = text ++ 13 ∷ 10 ∷ []

-- a field, where there is one
abbrev pub field_line : List ℕ → Option (List ℕ) → List ℕ
field_line name None = []
field_line name (Some said) = line (name ++ codes ": " ++ said)

-- the bytes that a sibling shows
abbrev pub bytes_of : Content → List ℕ
bytes_of (Value media bytes) = bytes
bytes_of Tombstone = []

-- `vnode-n`
abbrev pub tag_of : Dot → List ℕ
tag_of dot = decimal dot.vnode ++ codes "-" ++ decimal dot.n

-- the needle stands somewhere in the bytes
abbrev pub occurs_in : List ℕ → List ℕ → Bool
occurs_in needle [] = starts_with nat_eq [] needle
occurs_in needle (b ∷ bytes) = starts_with nat_eq (b ∷ bytes) needle || occurs_in needle bytes

-- the delimiter of boundary number n
abbrev pub delimiter : ℕ → List ℕ
delimiter n = codes "--s" ++ decimal n

-- the delimiter stands in no value
abbrev pub is_free : List Sibling → ℕ → Bool
is_free siblings n = list_all (λ s. not (occurs_in (delimiter n) (bytes_of s.content))) siblings

-- the least number whose delimiter stands in no value
pub record IsLeastFree (siblings : List Sibling) (n : ℕ) : Type 0 where
  pub free : is_free siblings n ≡ true
  pub least : (k : ℕ) → k < n → is_free siblings k ≡ false

-- the boundary's number: the least whose delimiter stands in no value. No two delimiters in the values end at the same byte, so it is one
-- of the numbers up to the count of their bytes.
abbrev pub boundary_of : List Sibling → ℕ
boundary_of siblings = unwrap_or (find (is_free siblings) (range_with_len 0 (sum_by (λ s. length (bytes_of s.content)) siblings + 1))) 0

-- the first line of a part's head
abbrev pub kind_line : Content → List ℕ
kind_line (Value media bytes) = line (codes "Content-Type: " ++ media)
kind_line Tombstone = line (codes "X-Riak-Deleted: true")

abbrev pub part : ℕ → Sibling → List ℕ
part n s = line [] ++ line (delimiter n) ++ kind_line s.content ++ line (codes "X-Riak-Tag: " ++ tag_of s.dot) ++ line [] ++ bytes_of s.content

-- the body with this boundary
abbrev pub parts_body : ℕ → List Sibling → List ℕ
parts_body n siblings = flat_map (part n) siblings ++ line [] ++ line (delimiter n ++ codes "--")
