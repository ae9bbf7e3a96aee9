-- How a log is ended that a crash may have torn (this store's profile).
use Rattle.std.specs.Prelude.{ℕ, List}
use Rattle.record_codec.specs.declared.record.Record.{Record}
use Rattle.log_tail.specs.Fronts.{AreInFront, HasAllInFront}
use Rattle.kept_file.specs.Files.{IsFileOf}

-- all records that stand in front of bytes are a whole file, with the record that ends it
abbrev pub IsEndedBehind : List ℕ → List ℕ → Type 0
IsEndedBehind bytes ended = (records : List Record) × (count : ℕ) × AreInFront bytes records count × HasAllInFront bytes records × IsFileOf 0 records ended
