-- Sheets at the front of a file.
use Rattle.std.proofs.Common.{◌≡◌, ◌∙◌, ℕ, List, ◌++◌, length, drop, sym, ap}
use Rattle.std.proofs.lemmas.List.{take-append-drop}
use Rattle.log_file.specs.Devices.{BeginsWith}
use Rattle.log_writer.specs.declared.sheet.Sheet.{Sheet}
use Rattle.log_writer.specs.Sheets.{bytes_of, StandsIn}

-- they stand in a file that begins with their bytes, but for those of earlier ones
pub stands : (earlier sheets : List Sheet) (mine file : List ℕ) → bytes_of sheets ≡ bytes_of earlier ++ mine → BeginsWith mine file → StandsIn earlier sheets file
stands earlier sheets mine file is begins = record {
  mine = mine;
  bytes = is;
  rest = drop (length mine) file;
  front = sym (take-append-drop (length mine) file) ∙ ap (λ xs. xs ++ drop (length mine) file) begins;
}
