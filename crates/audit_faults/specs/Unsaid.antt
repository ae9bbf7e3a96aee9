-- Faults that say nothing of journals that were followed.
use Rattle.audit_faults.specs.declared.fault.WatchFault.{WatchFault}
use Rattle.audit_faults.specs.declared.fault.WatchFault.TheVariants.{Found, Lost, NoMemory}

-- a fault that says nothing of the journals
abbrev pub IsNoYes : WatchFault → Type 0
IsNoYes (Found fault) = ⊥
IsNoYes Lost = Unit {0}
IsNoYes NoMemory = Unit {0}
