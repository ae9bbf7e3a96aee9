-- Why a put is refused: what a state refuses, and want of memory beside it (this store's profile).
use Rattle.key_state.specs.declared.fault.PutRefusal.{PutRefusal}
use Rattle.key_state.specs.declared.fault.PutRefusal.TheVariants as refusal
use Rattle.key_state.specs.declared.fault.PutFault.{PutFault}
use Rattle.key_state.specs.declared.fault.PutFault.TheVariants as fault

-- the fault of a refusal
abbrev pub fault_of : PutRefusal → PutFault
fault_of refusal.ContextAhead = fault.ContextAhead
fault_of refusal.TooManySiblings = fault.TooManySiblings
fault_of refusal.ClockFull = fault.ClockFull
