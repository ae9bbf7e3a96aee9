-- What a pen has of its log.
use Rattle.std.specs.Prelude.{◌≡◌, ℕ, Bool, true, false, List, [], ◌∷◌, ◌++◌}
use Rattle.kept_file.specs.Files.{end_of}
use Rattle.log_writer.specs.declared.sheet.Sheet.{Sheet}
use Rattle.record_codec.specs.Lists.{AreSpelledBy}
use Rattle.log_desk.specs.declared.pen.Current.{Current}
use Rattle.log_desk.specs.declared.pen.Current.TheVariants.{GivenUp, Open}

module _ {D J : Type 0} where
  -- the list behind which the next batch is written
  abbrev pub written_of : Current D J → List Sheet
  written_of (Open log) = log.written
  written_of (GivenUp list) = list

  -- the list of those that were forced
  abbrev pub forced_of : Current D J → List Sheet
  forced_of (Open log) = log.forced
  forced_of (GivenUp list) = []

  abbrev pub is_given_up : Current D J → Bool
  is_given_up (Open log) = false
  is_given_up (GivenUp list) = true

-- the last sheet is the record that ends a log with so many records
abbrev pub IsEnded : List Sheet → Type 0
IsEnded list = (before : List Sheet) × (end : Sheet) × (count : ℕ) × (list ≡ before ++ end ∷ []) × AreSpelledBy (end_of 0 count ∷ []) end.bytes.items
