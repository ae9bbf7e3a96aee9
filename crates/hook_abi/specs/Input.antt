-- What a hook reads: a head, a row for each content, and the contents without gaps (this store's profile). All numbers are little-endian.
use Rattle.std.specs.Prelude.{ℕ, ◌+◌, ◌-◌, ◌*◌, List, [], ◌∷◌, ◌++◌, length, replicate, Option, Some, None}
use Rattle.std.specs.List.{flat_map}
use Rattle.std.specs.Int.{w32, w64, to_le_bytes}
use Rattle.key_state.specs.declared.content.Content.{Content}
use Rattle.key_state.specs.declared.content.Content.TheVariants.{Value, Tombstone}
use Rattle.key_state.specs.declared.content.Sibling.{Sibling}
use Rattle.bpf_image.specs.declared.image.ImageKind.{ImageKind}
use Rattle.bpf_image.specs.Image.{kind_number}

-- the bytes that a content shows: a tombstone none. Media types aren't shown.
abbrev pub shown : Content → List ℕ
shown (Value media bytes) = bytes
shown Tombstone = []

-- the bytes that a new content shows, where there is one
abbrev pub new_shown : Option Content → List ℕ
new_shown None = []
new_shown (Some content) = shown content

-- 1 for a value, 0 for a tombstone
abbrev pub flag_of : Content → ℕ
flag_of (Value media bytes) = 1
flag_of Tombstone = 0

-- the contents that are shown: the new one first, under vnode 0 and counter 0, and then the siblings
abbrev pub contents_shown : Option Content → List Sibling → List Sibling
contents_shown None siblings = siblings
contents_shown (Some content) siblings = (record { dot = record { vnode = 0; n = 0 }; content = content }) ∷ siblings

-- a head: the kind, how many rows there are, how many bytes are used, and a zero
abbrev pub head : ImageKind → ℕ → ℕ → List ℕ
head kind count used = to_le_bytes w32 (kind_number kind) ++ to_le_bytes w32 count ++ to_le_bytes w32 used ++ to_le_bytes w32 0

-- a row: vnode, flag, counter, and at which offset its value stands and how long it is
abbrev pub row : ℕ → Sibling → List ℕ
row offset s = to_le_bytes w32 s.dot.vnode ++ to_le_bytes w32 (flag_of s.content) ++ to_le_bytes w64 s.dot.n ++ to_le_bytes w32 offset ++ to_le_bytes w32 (length (shown s.content))

-- the rows of contents whose values stand one after another from an offset on
abbrev pub rows : ℕ → List Sibling → List ℕ
rows offset [] = []
rows offset (s ∷ ss) = row offset s ++ rows (offset + length (shown s.content)) ss

-- the values in their order, without gaps
abbrev pub values : List Sibling → List ℕ
values ss = flat_map (λ s. shown s.content) ss

-- where the values begin
abbrev pub values_at : List Sibling → ℕ
values_at ss = 16 + 24 * length ss

-- how many bytes are used
abbrev pub used_by : List Sibling → ℕ
used_by ss = values_at ss + length (values ss)

-- the input's used bytes
abbrev pub layout : ImageKind → List Sibling → List ℕ
layout kind ss = head kind (length ss) (used_by ss) ++ rows (values_at ss) ss ++ values ss

-- the whole window: the used bytes, and zeros to its end
abbrev pub window_of : ℕ → ImageKind → List Sibling → List ℕ
window_of len kind ss = layout kind ss ++ replicate (len - used_by ss) 0
