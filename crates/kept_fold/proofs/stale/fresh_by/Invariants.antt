use Rattle.std.specs.List.{AllZip}
use Rattle.kept_fold.specs.Stale.{IsFreshBy}
use Rattle.kept_fold.proofs.stale.fresh_by.Given as goal

-- those so far are fresh
abbrev pub invariant-loop-file : goal.invariant-loop-file
invariant-loop-file l = AllZip (IsFreshBy l.last) l.yielded l.fresh.items
