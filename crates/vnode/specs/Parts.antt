-- When a vnode refuses a part of a state (this store's profile). As with a merge it is said once, of the state at hand; of a journal it is
-- said of the state that the journal leaves.
use Rattle.std.specs.Prelude.{◌≡◌, Bool, IsTrue, false, Option, None, Some}
use Rattle.key_state.specs.declared.content.Key.{Key}
use Rattle.key_state.specs.State.{State}
use Rattle.key_state.specs.Parts.{Partial, lacks_some, whole_of}
use Rattle.journal.specs.Logs.{Log}
use Rattle.journal.specs.Replay.{Leaves}
use Rattle.vnode.specs.declared.fault.PartFault.{PartFault}
use Rattle.vnode.specs.declared.fault.PartFault.TheVariants.{Missing, Refused}
use Rattle.vnode.specs.Refusals.{RefusesMergeAt}

-- why a part is refused: a content that was left out isn't held, or else the merge of the whole state is refused
abbrev pub RefusesPartAt : Log → Partial → State → PartFault → Type 0
RefusesPartAt log part state Missing = IsTrue (lacks_some state part)
RefusesPartAt log part state (Refused fault) = (lacks_some state part ≡ false) × RefusesMergeAt log part.clock state fault

-- why a part is refused at a key of a journal
abbrev pub RefusesPart : Log → Key → Partial → PartFault → Type 0
RefusesPart log k part fault = Leaves log.entries k (λ state. RefusesPartAt log part state fault)

-- what is merged where a state came, or a part in its place: the state, or the whole one for which the part stands
abbrev pub brought : Option Partial → State → State → State
brought None came own = came
brought (Some part) came own = whole_of part own

-- a content that was left out of it isn't held
abbrev pub lacks_of : Option Partial → State → Bool
lacks_of None own = false
lacks_of (Some part) own = lacks_some own part

-- why it is refused: a part as a part, a state as the merge of it
abbrev pub RefusesBroughtAt : Log → Option Partial → State → State → PartFault → Type 0
RefusesBroughtAt log (Some part) came own fault = RefusesPartAt log part own fault
RefusesBroughtAt log None came own Missing = ⊥
RefusesBroughtAt log None came own (Refused fault) = RefusesMergeAt log came.clock own fault

-- why it is refused at a key of a journal
abbrev pub RefusesBrought : Log → Key → Option Partial → State → PartFault → Type 0
RefusesBrought log k part came fault = Leaves log.entries k (λ own. RefusesBroughtAt log part came own fault)
