use Rattle.std.proofs.Common.{take}
use Rattle.std.specs.List.{AllByRecursion}
use Rattle.key_state.specs.State.{IsBefore}
use Rattle.key_state.proofs.placing.place_of.Given as goal

-- the siblings so far have lower dots
abbrev pub invariant-loop-i : goal.invariant-loop-i
invariant-loop-i l = AllByRecursion (λ s. IsBefore s.dot l.dot) (take l.i l.siblings)
