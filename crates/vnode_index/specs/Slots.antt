-- How slots hold hashes and the places of items, and where each slot stands (open addressing with linear probing).
use Rattle.std.specs.Prelude.{◌≡◌, ◌==◌, ◌+◌, ◌*◌, ◌-◌, ◌/◌, ◌%◌, ◌^◌, ◌<◌, ◌≤◌, ◌⊎◌, ℕ, Bool, not, bit_xor, List, [], ◌∷◌, if◌then◌else◌, length, map, slice_index_or, slice_set}
use Rattle.std.specs.List.{count_by, range_with_len}

-- what callers see of an index: the hashes of the items in the order of their places, and how many slots there are
pub record Indexed : Type 0 where
  pub hashes : List ℕ
  pub slots : ℕ

-- one more item fits: an eighth of the slots, rounded down, stays free
abbrev pub HasRoom : Indexed → Type 0
HasRoom index = length index.hashes < index.slots - index.slots / 8

-- both halves of a hash XORed, without the lowest 9 bits
abbrev pub folded : ℕ → ℕ
folded hash = bit_xor (hash / 2 ^ 32) (hash % 2 ^ 32) / 2 ^ 9

-- how many slots there may be, where there are any
abbrev pub IsSlotCount : ℕ → Type 0
IsSlotCount count = (8 ≤ count) × (count ≤ 2 ^ 25)

-- what a slot holds: bits of an item's hash, and the item's place + 1; at 0 it is free
pub record Slot : Type 0 where
  pub hash : ℕ
  pub item : ℕ

-- nobody's slot
abbrev pub free : Slot
free = record { hash = 0; item = 0 }

-- the slot at an index, and beyond the last a free one
abbrev pub slot_at : List Slot → ℕ → Slot
slot_at slots p = slice_index_or slots p free

abbrev pub item_at : List Slot → ℕ → ℕ
item_at slots p = (slot_at slots p).item

-- a slot that holds the hash of the item at a place
abbrev pub slot_of : ℕ → ℕ → Slot
slot_of hash place = record { hash = hash; item = place + 1 }

abbrev pub is_taken : Slot → Bool
is_taken slot = not (slot.item == 0)

-- how many slots are taken
unfoldable pub taken : List Slot → ℕ
taken slots = count_by is_taken slots

-- where a probe for a hash of 23 bits begins, among so many slots: the larger the hash, the further on
abbrev pub home : ℕ → ℕ → ℕ
home count hash = hash * count / 2 ^ 23

-- where it stands after so many steps
unfoldable pub probed : ℕ → ℕ → ℕ → ℕ
probed count hash step = (home count hash + step) % count

-- before so many steps a probe for the hash finds each slot taken
abbrev pub PassesTo : List Slot → ℕ → ℕ → Type 0
PassesTo slots hash step = (j : ℕ) → j < step → 0 < item_at slots (probed (length slots) hash j)

-- a probe for the hash comes to a slot past taken ones alone
pub record Reaches (slots : List Slot) (hash p : ℕ) : Type 0 where
  pub step : ℕ
  pub within : step < length slots
  pub there : p ≡ probed (length slots) hash step
  pub passes : PassesTo slots hash step

-- no two slots hold one item, and a probe for its hash comes to each
pub record AreProbed (slots : List Slot) : Type 0 where
  pub distinct : (p q : ℕ) → 0 < item_at slots p → item_at slots p ≡ item_at slots q → p ≡ q
  pub reached : (p : ℕ) → 0 < item_at slots p → Reaches slots (slot_at slots p).hash p

-- a slot is put where a probe for its hash comes to the first free one
pub record Puts (old : List Slot) (slot : Slot) (new : List Slot) : Type 0 where
  pub at : ℕ
  pub within : at < length old
  pub was_free : item_at old at ≡ 0
  pub reached : Reaches old slot.hash at
  pub written : new ≡ slice_set old at slot

-- the taken slots of a list before so many, and no others, put anew
pub record Rehashes (from to : List Slot) (k : ℕ) : Type 0 where
  pub probed : AreProbed to
  pub all : (p : ℕ) → p < k → 0 < item_at from p → (q : ℕ) × (slot_at to q ≡ slot_at from p)
  pub only : (q : ℕ) → 0 < item_at to q → (p : ℕ) × (p < k) × (slot_at to q ≡ slot_at from p)

-- the slots of so many items: each has one, and no slot is another's
pub record Indexes (slots : List Slot) (items : ℕ) : Type 0 where
  pub probed : AreProbed slots
  pub all : (i : ℕ) → i < items → (p : ℕ) × (item_at slots p ≡ i + 1)
  pub only : (p : ℕ) → item_at slots p ≤ items

-- what holds of an index at all times, over its slots and the number of its items
pub record IsValid (slots : List Slot) (items : ℕ) : Type 0 where
  pub count : (length slots ≡ 0) ⊎ IsSlotCount (length slots)
  pub load : items ≤ length slots - length slots / 8
  pub indexes : Indexes slots items
  pub taken : taken slots ≡ items

-- the hash in the first slot of the item at a place
abbrev pub hash_of : List Slot → ℕ → ℕ
hash_of [] place = 0
hash_of (slot ∷ slots) place = if slot.item == place + 1 then slot.hash else hash_of slots place

-- the hashes of so many items, in the order of their places
unfoldable pub hashes_of : List Slot → ℕ → List ℕ
hashes_of slots items = map (hash_of slots) (range_with_len 0 items)
