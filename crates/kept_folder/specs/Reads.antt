-- What a start reads of a folder (this store's profile).
use Rattle.std.specs.Prelude.{◌≡◌, ◌⊎◌, ◌%◌, ◌+◌, ◌-◌, ◌<◌, ◌≤◌, ◌^◌, ⊤, ℕ, List, [], ◌∷◌, ◌++◌, codes, decimal, length, max, min, Option, None, Some}
use Rattle.std.specs.Global.{Vec}
use Rattle.std.specs.List.{AllByRecursion}
use Rattle.kept_file.specs.Files.{IsFileOf, records_at}
use Rattle.kept_file.specs.Logs.{IsEndedLog, IsTornLog}
use Rattle.kept_file.specs.declared.file.KeptFile.{KeptFile}
use Rattle.kept_file.specs.declared.file.Source.{Source}
use Rattle.kept_file.specs.declared.file.Source.TheVariants.{Vnode, Log}
use Rattle.kept_folder.specs.declared.logs.Logs.{Logs}
use Rattle.kept_folder.specs.declared.logs.Span.{Span}
use Rattle.kept_folder.specs.Numbers.{IsFiled}
use Rattle.kept_folder.specs.Seals.{sealed}

-- the bytes of a file, where there is one
abbrev pub bytes_in : Option (Vec ℕ) → Option (List ℕ)
bytes_in None = None
bytes_in (Some bytes) = Some bytes.items

-- the most vnodes that a folder has files of
abbrev pub most_vnodes : ℕ
most_vnodes = 16

-- the file of the records of the vnode with an index; the last of these where the index is past it
abbrev pub name_of : ℕ → List ℕ
name_of index = codes "vnode-" ++ decimal (min index (most_vnodes - 1)) ++ codes ".records"

-- the file of the log with a number
abbrev pub log_name : ℕ → List ℕ
log_name number = codes "log-" ++ decimal number

-- how many vnodes files are of: one more than the greatest index; 0 where no vnode has a file
abbrev pub vnodes_in : Source → ℕ
vnodes_in (Vnode id) = id % 256 + 1
vnodes_in (Log number) = 0

abbrev pub vnodes_of : List KeptFile → ℕ
vnodes_of [] = 0
vnodes_of (file ∷ files) = max (vnodes_in file.from) (vnodes_of files)

-- a number is within the span of some
abbrev pub IsWithin : Option Span → ℕ → Type 0
IsWithin None number = ⊥
IsWithin (Some span) number = (span.first ≤ number) × (number ≤ span.last)

-- the span of no number is none
abbrev pub IsSpan : Option Span → Type 0
IsSpan None = ⊤
IsSpan (Some span) = span.first ≤ span.last

-- bytes, where there are some, are the whole file of the records of the vnode with an index
abbrev pub IsFileIn : Option (List ℕ) → ℕ → Option KeptFile → Type 0
IsFileIn None index None = ⊤
IsFileIn (Some bytes) index (Some file) = (id : ℕ) × (file.from ≡ Vnode id) × IsFileOf id file.records.items bytes × (id % 256 ≡ index)
IsFileIn None index (Some file) = ⊥
IsFileIn (Some bytes) index None = ⊥

module _ (finds : List ℕ → Option (List ℕ) → Type 0) where
  -- what stands before a file's seal, where there is one
  abbrev pub IsUnsealed : List ℕ → Option (Vec ℕ) → Type 0
  IsUnsealed name None = finds name None
  IsUnsealed name (Some held) = finds name (Some (sealed held.items))

  -- the same, and nothing where there is no file
  abbrev pub IsHeldIn : List ℕ → List ℕ → Type 0
  IsHeldIn name held = (finds name None × (held ≡ [])) ⊎ finds name (Some (sealed held))

  -- this was read of the vnode with an index: what its file holds, or that there is no such file
  abbrev pub IsFoundAt : ℕ → Option KeptFile → Type 0
  IsFoundAt index file = (bytes : Option (List ℕ)) × finds (name_of index) bytes × IsFileIn bytes index file

  -- there is a file of the vnode with an index
  abbrev pub IsThere : ℕ → Type 0
  IsThere index = (bytes : List ℕ) × finds (name_of index) (Some bytes)

  -- there is one of each vnode that has one, as is told
  abbrev pub AreThere : Option ℕ → Type 0
  AreThere filed = (index : ℕ) → index < most_vnodes → IsFiled filed index → IsThere index

  -- the records of the vnode with an index are those of its file, and none where there is no such file
  abbrev pub IsReadAt : List KeptFile → ℕ → Type 0
  IsReadAt files index =
      (finds (name_of index) None × (records_at files index ≡ []))
      ⊎ ((bytes : List ℕ) × (from : ℕ) × finds (name_of index) (Some bytes) × IsFileOf from (records_at files index) bytes × (from % 256 ≡ index))

  -- a file that was read is that of a vnode with an index below 16
  abbrev pub IsVnodeIn : KeptFile → Type 0
  IsVnodeIn file = (index : ℕ) × (bytes : List ℕ) × (index < most_vnodes) × finds (name_of index) (Some bytes) × IsFileIn (Some bytes) index (Some file)

  -- files that were read are logs that were closed in order, numbered from a number on, each with its records
  abbrev pub AreEnded : ℕ → List KeptFile → Type 0
  AreEnded number [] = ⊤
  AreEnded number (file ∷ files) =
      (file.from ≡ Log number) × ((bytes : List ℕ) × finds (log_name number) (Some bytes) × IsEndedLog file.records.items bytes) × AreEnded (number + 1) files

  -- a file that was read is the newest log: the records in front of it, and how many bytes stand behind the last whole one
  abbrev pub IsNewest : Logs → KeptFile → Type 0
  IsNewest logs file = (file.from ≡ Log logs.last) × ((bytes : List ℕ) × finds (log_name logs.last) (Some bytes) × IsTornLog file.records.items logs.torn bytes)

  -- there is no log below these numbers, nor above them
  abbrev pub HasNoOther : ℕ → ℕ → Type 0
  HasNoOther first last = (number : ℕ) → number < 2 ^ 64 → (number < first) ⊎ (last < number) → finds (log_name number) None

  -- files that were read are all logs that there are, in the order of their numbers, which have no gap
  abbrev pub AreLogs : Option Logs → List KeptFile → Type 0
  AreLogs None files = (files ≡ []) × ((number : ℕ) → number < 2 ^ 64 → finds (log_name number) None)
  AreLogs (Some logs) files = (ended : List KeptFile) × (newest : KeptFile) × (files ≡ ended ++ newest ∷ [])
      × AreEnded logs.first ended × (logs.first + length ended ≡ logs.last) × IsNewest logs newest × HasNoOther logs.first logs.last

  -- all that there are: the files of vnodes, and behind them the logs
  abbrev pub AreAllFiles : Option Logs → List KeptFile → Type 0
  AreAllFiles logs files = (vnodes : List KeptFile) × (more : List KeptFile) × (files ≡ vnodes ++ more) × AllByRecursion IsVnodeIn vnodes × AreLogs logs more
