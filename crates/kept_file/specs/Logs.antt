-- The records of a log (this store's profile).
use Rattle.std.specs.Prelude.{◌≡◌, ℕ, ◌-◌, ◌==◌, Bool, List, filter, length, not}
use Rattle.record_codec.specs.declared.record.Record.{Record}
use Rattle.log_tail.specs.Fronts.{AreInFront, HasAllInFront}
use Rattle.kept_file.specs.Files.{IsFileOf}

-- a record is a sign: its state is empty, as no key's is, so it merges nothing
abbrev pub is_sign : Record → Bool
is_sign r = length r.state.clock == 0

-- the records of keys
abbrev pub without_signs : List Record → List Record
without_signs records = filter (λ (r : Record). not (is_sign r)) records

-- the bytes are a log that was closed in order, and these are the records of keys in it: the sign that ends it tells how many records stand before it
abbrev pub IsEndedLog : List Record → List ℕ → Type 0
IsEndedLog records bytes = (all : List Record) × (id : ℕ) × IsFileOf id all bytes × (records ≡ without_signs all)

-- these are the records of keys in front of bytes, of which so many stand behind the last whole record: nothing that was written whole from the first byte on is left out
abbrev pub IsTornLog : List Record → ℕ → List ℕ → Type 0
IsTornLog records torn bytes =
    (all : List Record) × (count : ℕ) × AreInFront bytes all count × HasAllInFront bytes all × (torn ≡ length bytes - count) × (records ≡ without_signs all)
