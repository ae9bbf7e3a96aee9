-- What the file of a log has (this store's profile).
use Rattle.std.specs.Prelude.{ℕ, Bool, List, take}
use Rattle.log_file.specs.declared.device.Device.{Ghosts}
use Rattle.log_file.specs.declared.file.LogFile.{LogFile}

module _ {D : Type 0} {g : Ghosts D} where
  -- its device
  abbrev pub device_of : LogFile D g → D
  device_of log = log.device

  -- all that was appended: it outlives a process that is killed
  abbrev pub appended : LogFile D g → List ℕ
  appended log = take log.appended_len (g.seen log.device)

  -- what was forced: it outlives every crash
  abbrev pub forced : LogFile D g → List ℕ
  forced log = take log.forced_len (g.seen log.device)

  -- no force has failed
  abbrev pub is_trusted : LogFile D g → Bool
  is_trusted log = log.is_trusted
