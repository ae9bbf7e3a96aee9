-- How each version of a token spells the entries of a clock (this store's profile).
use Rattle.std.specs.Prelude.{ℕ, ◌+◌, ◌*◌, ◌/◌, ◌%◌, ◌^◌, nat_lt, nat_le, Bool, true, if◌then◌else◌, List, [], ◌∷◌, ◌++◌, take, drop}
use Rattle.std.specs.Int.{to_be_bytes, from_be_bytes, w8, w16, w32, w64}
use Rattle.dvv.specs.declared.Dot.{Dot}
use Rattle.context_token.specs.declared.version.Version.{Version}
use Rattle.context_token.specs.declared.version.Version.TheVariants.{First, Second, Third}

-- a vnode's identifier as version 2 has it: its index in the low 16 bits, and its incarnation above them
abbrev pub index : ℕ → ℕ
index vnode = vnode % 2 ^ 16

abbrev pub incarnation : ℕ → ℕ
incarnation vnode = vnode / 2 ^ 16

-- vnodes in rising order of this number rise by index, and those of one index by incarnation
abbrev pub by_index : ℕ → ℕ
by_index vnode = index vnode * 2 ^ 16 + incarnation vnode

-- a vnode's identifier as version 3 has it: its index in the low 8 bits, and the number of its start above them
abbrev pub start_index : ℕ → ℕ
start_index vnode = vnode % 2 ^ 8

abbrev pub start_number : ℕ → ℕ
start_number vnode = vnode / 2 ^ 8

-- vnodes in rising order of this number rise by index, and those of one index by the number of their start
abbrev pub by_start_index : ℕ → ℕ
by_start_index vnode = start_index vnode * 2 ^ 24 + start_number vnode

-- vnodes in rising order of their identifiers
abbrev pub by_vnode : ℕ → ℕ
by_vnode vnode = vnode

pub record Layout : Type 0 where
  -- the first byte
  pub mark : ℕ
  -- how many bytes an entry has
  pub entry_len : ℕ
  -- the bytes of an entry
  pub bytes : Dot → List ℕ
  -- the entry of so many bytes
  pub entry : List ℕ → Dot
  -- the vnodes of a token's entries rise by this number
  pub order : ℕ → ℕ
  -- the vnodes of 32 bits that can be told
  pub tells : ℕ → Bool

-- version 1: the identifier in four bytes and the counter in eight, big-endian
abbrev pub first : Layout
first = record {
  mark = 1;
  entry_len = 12;
  bytes = λ entry. to_be_bytes w32 entry.vnode ++ to_be_bytes w64 entry.n;
  entry = λ bytes. record { vnode = from_be_bytes w32 (take 4 bytes); n = from_be_bytes w64 (drop 4 bytes) };
  order = by_vnode;
  tells = λ vnode. true;
}

-- version 2: the index in one byte, up to 254, the incarnation in two and the counter in eight, big-endian
abbrev pub second : Layout
second = record {
  mark = 2;
  entry_len = 11;
  bytes = λ entry. to_be_bytes w8 (index entry.vnode) ++ to_be_bytes w16 (incarnation entry.vnode) ++ to_be_bytes w64 entry.n;
  entry = λ bytes. record { vnode = from_be_bytes w16 (take 2 (drop 1 bytes)) * 2 ^ 16 + from_be_bytes w8 (take 1 bytes); n = from_be_bytes w64 (drop 3 bytes) };
  order = by_index;
  tells = λ vnode. nat_le (index vnode) 254;
}

-- version 3: the index in one byte, up to 254, the start's number in three and the counter in eight, big-endian
abbrev pub third : Layout
third = record {
  mark = 3;
  entry_len = 12;
  bytes = λ entry. to_be_bytes w8 (start_index entry.vnode) ++ drop 1 (to_be_bytes w32 (start_number entry.vnode)) ++ to_be_bytes w64 entry.n;
  entry = λ bytes. record { vnode = from_be_bytes w32 (0 ∷ take 3 (drop 1 bytes)) * 2 ^ 8 + from_be_bytes w8 (take 1 bytes); n = from_be_bytes w64 (drop 4 bytes) };
  order = by_start_index;
  tells = λ vnode. nat_le (start_index vnode) 254;
}

abbrev pub layout : Version → Layout
layout First = first
layout Second = second
layout Third = third

-- an entry before the first one with a greater number
abbrev pub placed : (ℕ → ℕ) → Dot → List Dot → List Dot
placed order entry [] = entry ∷ []
placed order entry (e ∷ entries) = if nat_lt (order entry.vnode) (order e.vnode) then entry ∷ e ∷ entries else e ∷ placed order entry entries

-- entries in rising order of a number of their vnodes
abbrev pub in_order : (ℕ → ℕ) → List Dot → List Dot
in_order order [] = []
in_order order (entry ∷ entries) = placed order entry (in_order order entries)
