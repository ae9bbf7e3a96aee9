-- How the names of a key are kept.
use Rattle.std.specs.Prelude.{ℕ, ◌≤◌, List, length, take, drop}
use Rattle.key_state.specs.declared.names.TheConstants.{SHORT_NAME_BYTES}
use Rattle.key_state.specs.declared.names.Kept.{Kept}
use Rattle.key_state.specs.declared.names.Kept.TheVariants.{Short, Long}
use Rattle.key_state.specs.Keys.{KeyParts}

-- both names in one list, the bucket's before a place in it
abbrev pub cut : ℕ → List ℕ → KeyParts
cut split bytes = record { bucket = take split bytes; key = drop split bytes }

-- the names that are kept
abbrev pub names_of : Kept → KeyParts
names_of (Short split len bytes) = cut split (take len bytes)
names_of (Long split bytes) = cut split bytes.items

-- the names lie within what is kept, of which an array has no more than so many bytes
abbrev pub AreWithin : Kept → Type 0
AreWithin (Short split len bytes) = (split ≤ len) × (len ≤ length bytes) × (len ≤ SHORT_NAME_BYTES)
AreWithin (Long split bytes) = split ≤ length bytes.items
