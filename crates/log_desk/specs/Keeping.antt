-- How a sheet is kept, as is set (this store's profile).
use Rattle.std.specs.Prelude.{ℕ, Bool, List, nat_le, true, false}
use mathlib.Core.List.{IsPrefix}
use Rattle.kept_folder.specs.declared.settings.SyncPolicy.{SyncPolicy}
use Rattle.kept_folder.specs.declared.settings.SyncPolicy.TheVariants.{Always, EverySecond, Never}
use Rattle.log_writer.specs.Sheets.{IsAmong}
use Rattle.log_writer.specs.declared.sheet.Sheet.{Sheet}
use Rattle.log_desk.specs.declared.kept.Kept.{Kept}
use Rattle.log_desk.specs.declared.kept.Kept.TheVariants as kept

module _ {J : Type 0} where
  -- a receipt's sheet is among those that were forced, where that is set to be done before a write is acknowledged, and else among those that were written; or
  -- the log that was to have it was given up, and a snapshot that began later has what it notes
  abbrev pub IsKeptAs : SyncPolicy → List Sheet → Kept J → Type 0
  IsKeptAs Always receipt (kept.Written written) = ⊥
  IsKeptAs EverySecond receipt (kept.Written written) = IsAmong receipt written
  IsKeptAs Never receipt (kept.Written written) = IsAmong receipt written
  IsKeptAs sync receipt (kept.Forced forced) = IsAmong receipt forced
  IsKeptAs sync receipt (kept.Covered covered) = IsPrefix receipt covered

-- whether what was written is to be forced, so many milliseconds after that was done last
abbrev pub is_due : SyncPolicy → ℕ → Bool
is_due Always passed = true
is_due EverySecond passed = nat_le 1000 passed
is_due Never passed = false
