-- Sheets, one behind another (this store's profile).
use Rattle.std.specs.Prelude.{◌≡◌, ℕ, Bool, List, ◌++◌}
use Rattle.std.specs.List.{flat_map}
use mathlib.Core.List.{IsPrefix}
use Rattle.log_writer.specs.declared.sheet.Sheet.{Sheet}

-- the bytes of all of them
abbrev pub bytes_of : List Sheet → List ℕ
bytes_of sheets = flat_map (λ (s : Sheet). s.bytes.items) sheets

-- some sheets of the list of all: the list before them, and up to them
pub record Span : Type 0 where
  pub before : List Sheet
  pub upto : List Sheet

-- a receipt is the list up to its sheet, and that sheet is one of these
abbrev pub IsAmong : List Sheet → Span → Type 0
IsAmong receipt span = (IsPrefix receipt span.before → ⊥) × IsPrefix receipt span.upto

-- a log's device, the list of the sheets that no log of this writer has, with these the list of those that its earlier logs have, and with these the
-- lists of those that were written, and that were forced; and whether no force has failed
pub record Logged (D : Type 0) : Type 0 where
  pub device : D
  pub skipped : List Sheet
  pub earlier : List Sheet
  pub written : List Sheet
  pub forced : List Sheet
  pub is_trusted : Bool

-- a file begins with the bytes of these sheets, but for those of earlier ones
pub record StandsIn (earlier sheets : List Sheet) (file : List ℕ) : Type 0 where
  pub mine : List ℕ
  pub bytes : bytes_of sheets ≡ bytes_of earlier ++ mine
  pub rest : List ℕ
  pub front : file ≡ mine ++ rest
