use Rattle.std.proofs.Common.{take}
use Rattle.kept_hooks.specs.Alone.{AreTaken}
use Rattle.kept_hooks.proofs.beginning.take_from.Given as goal

-- the names so far were taken
abbrev pub invariant-loop-one : goal.invariant-loop-one
invariant-loop-one g l = AreTaken g.H.HookChanges.takes (take l.one-index l.refused) l.initial.hooks l.hooks
