-- How what is said of the journals at the end is told (this store's profile).
use Rattle.std.specs.Prelude.{ℕ, List, ◌++◌, codes, decimal, Result, Ok, Err}
use Rattle.audit_faults.specs.declared.fault.EntryFault.{EntryFault}
use Rattle.audit_faults.specs.declared.fault.EntryFault.TheVariants.{Twice, Falls, NoSource, OtherState, GivenUp, Late, Illegal}
use Rattle.audit_faults.specs.declared.fault.AuditFault.TheVariants as follow
use Rattle.audit_faults.specs.declared.fault.WatchFault.{WatchFault}
use Rattle.audit_faults.specs.declared.fault.WatchFault.TheVariants.{Found, Lost, NoMemory}
use Rattle.commands.specs.Outcome.{line}

-- the names of the faults
abbrev pub code_text : EntryFault → List ℕ
code_text Twice = codes "A1"
code_text Falls = codes "A2"
code_text NoSource = codes "A3"
code_text OtherState = codes "A4"
code_text GivenUp = codes "A5"
code_text Late = codes "A6"
code_text Illegal = codes "A7"

-- the line that tells what is said of the journals
abbrev pub audit_text : Result (Unit {0}) WatchFault → List ℕ
audit_text (Ok all) = line (codes "audit ok")
audit_text (Err (Found (follow.Found code vnode place))) = line (codes "audit " ++ code_text code ++ codes " " ++ decimal vnode ++ codes " " ++ decimal place)
audit_text (Err (Found follow.NoMemory)) = line (codes "audit E1")
audit_text (Err NoMemory) = line (codes "audit E1")
audit_text (Err Lost) = line (codes "audit handed out")

-- the status that goes with it
abbrev pub audit_status : Result (Unit {0}) WatchFault → ℕ
audit_status (Ok all) = 0
audit_status (Err fault) = 1
