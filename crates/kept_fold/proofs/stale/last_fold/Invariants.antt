use Rattle.std.proofs.Common.{◌≡◌, take}
use Rattle.kept_fold.specs.Stale.{fold_in, greatest}
use Rattle.kept_fold.proofs.stale.last_fold.Given as goal

-- the last one so far
abbrev pub invariant-loop-entry : goal.invariant-loop-entry
invariant-loop-entry l = l.last ≡ greatest fold_in (take l.entry-index l.entries)
