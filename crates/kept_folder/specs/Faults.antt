-- Why a stop doesn't replace a file (this store's profile).
use Rattle.kept_file.specs.Snapshots.{IsOfWriting}
use Rattle.kept_folder.specs.declared.writing.WriteFault.{WriteFault}
use Rattle.kept_folder.specs.declared.writing.WriteFault.TheVariants.{File, Records}

-- an operation on a file wasn't done, or the records weren't written: for a record's limits, for memory or for the device, and for nothing else
abbrev pub IsOfStop : WriteFault → Type 0
IsOfStop (File fault) = Unit {0}
IsOfStop (Records fault) = IsOfWriting fault
