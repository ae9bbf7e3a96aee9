-- What is told of whole journals.
use Rattle.std.proofs.Common.{◌≡◌, sym, subst}
use Rattle.audit_faults.specs.Codes.{IsOneOf, IsOfSource, IsOfWhole}
use Rattle.audit_faults.specs.declared.fault.AuditFault.{AuditFault}
use Rattle.audit_faults.specs.declared.fault.AuditFault.TheVariants.{Found, NoMemory}
use Rattle.audit_faults.specs.declared.fault.EntryFault.{EntryFault}
use Rattle.audit_faults.specs.declared.fault.EntryFault.TheVariants.{Twice, Falls, NoSource, OtherState, GivenUp, Late, Illegal}

widened : (these : EntryFault → Type 0) → ((code : EntryFault) → these code → IsOfWhole code) → (fault : AuditFault) → IsOneOf these fault → IsOneOf IsOfWhole fault
widened these all (Found code vnode place) is = all code is
widened these all NoMemory is = tt

of_source : (code : EntryFault) → IsOfSource code → IsOfWhole code
of_source Twice is = tt
of_source Falls is = tt
of_source NoSource is = tt
of_source OtherState is = tt
of_source GivenUp is = is
of_source Late is = is
of_source Illegal is = is

-- the one code that is told, which is one of them
pub one_of_whole : (own : EntryFault) → IsOfWhole own → (fault : AuditFault) → IsOneOf (λ code. code ≡ own) fault → IsOneOf IsOfWhole fault
one_of_whole own whole = widened (λ code. code ≡ own) (λ code is. subst (λ (c : EntryFault). IsOfWhole c) (sym is) whole)

-- a merge's source
pub source_of_whole : (fault : AuditFault) → IsOneOf IsOfSource fault → IsOneOf IsOfWhole fault
source_of_whole = widened IsOfSource of_source
