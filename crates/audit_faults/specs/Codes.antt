-- Which faults of entries can be told.
use Rattle.audit_faults.specs.declared.fault.EntryFault.{EntryFault}
use Rattle.audit_faults.specs.declared.fault.EntryFault.TheVariants.{Twice, Falls, NoSource, OtherState, GivenUp, Late, Illegal}
use Rattle.audit_faults.specs.declared.fault.AuditFault.{AuditFault}
use Rattle.audit_faults.specs.declared.fault.AuditFault.TheVariants.{Found, NoMemory}

-- a fault that was found is one of these
abbrev pub IsOneOf : (EntryFault → Type 0) → AuditFault → Type 0
IsOneOf these (Found code vnode place) = these code
IsOneOf these NoMemory = Unit {0}

-- what can be wrong with a merge's source where no answer is given up
abbrev pub IsOfSource : EntryFault → Type 0
IsOfSource NoSource = Unit {0}
IsOfSource OtherState = Unit {0}
IsOfSource Twice = ⊥
IsOfSource Falls = ⊥
IsOfSource GivenUp = ⊥
IsOfSource Late = ⊥
IsOfSource Illegal = ⊥

-- what can be wrong with whole journals, each of which is legal, where no answer is given up and the entries come in the order of their stamps
abbrev pub IsOfWhole : EntryFault → Type 0
IsOfWhole Twice = Unit {0}
IsOfWhole Falls = Unit {0}
IsOfWhole NoSource = Unit {0}
IsOfWhole OtherState = Unit {0}
IsOfWhole GivenUp = ⊥
IsOfWhole Late = ⊥
IsOfWhole Illegal = ⊥
