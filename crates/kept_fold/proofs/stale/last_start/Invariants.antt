use Rattle.std.proofs.Common.{◌≡◌, take}
use Rattle.kept_fold.specs.Stale.{greatest, start_of}
use Rattle.kept_fold.proofs.stale.last_start.Given as goal

-- the last one so far
abbrev pub invariant-loop-entry : goal.invariant-loop-entry
invariant-loop-entry l = l.last ≡ greatest start_of (take l.entry-index l.entries)
