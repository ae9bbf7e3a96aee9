-- How what workers noted is kept (this store's profile).
use Rattle.std.specs.Prelude.{◌≡◌, ◌<◌, ◌≤◌, ◌++◌, ℕ, List, IfSome, Option}
use Rattle.log_writer.specs.declared.sheet.Sheet.{Sheet}

-- a sheet of so many records is as it was, or has more behind that
abbrev pub HasGrown : Sheet → ℕ → Sheet → ℕ → Type 0
HasGrown old records new count = (more : List ℕ) × (new.bytes.items ≡ old.bytes.items ++ more) × (records ≤ count)

-- by what a ledger says of a sheet that was put down, and what shows that the sheet of a receipt is kept
module _ {L R K : Type 0} (put : L → Sheet → R → Type 0) (shows : L → R → K → Type 0) (ledger : L) where
  -- the sheet of a receipt is kept
  abbrev pub IsShown : R → Type 0
  IsShown receipt = (kept : K) × shows ledger receipt kept

  -- a sheet of so many records was put down and is kept, where it has some, and else what was put down last, if something was
  abbrev pub IsAllKept : Sheet → ℕ → Option R → Type 0
  IsAllKept sheet records last = (0 < records → (receipt : R) × put ledger sheet receipt × IsShown receipt) × (records ≡ 0 → IfSome last IsShown)

  -- so it is of a sheet that was this one, and has more behind that
  abbrev pub IsMoreKept : Sheet → ℕ → Option R → Type 0
  IsMoreKept old records last = (new : Sheet) × (count : ℕ) × HasGrown old records new count × IsAllKept new count last
