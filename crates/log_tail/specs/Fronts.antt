-- Records in front of a log's bytes (this store's profile).
use Rattle.std.specs.Prelude.{ℕ, ◌≤◌, List, length, take}
use mathlib.Core.List.{IsPrefix}
use Rattle.record_codec.specs.declared.record.Record.{Record}
use Rattle.record_codec.specs.Lists.{AreSpelledBy}
use Rattle.log_file.specs.Devices.{BeginsWith}

-- the first so many bytes are those of these records, one after another
pub record AreInFront (bytes : List ℕ) (records : List Record) (count : ℕ) : Type 0 where
  pub within : count ≤ length bytes
  pub spelled : AreSpelledBy records (take count bytes)

-- whatever records the bytes begin with, they were found first
abbrev pub HasAllInFront : List ℕ → List Record → Type 0
HasAllInFront bytes found = (records : List Record) (front : List ℕ) → AreSpelledBy records front → BeginsWith front bytes → IsPrefix records found
