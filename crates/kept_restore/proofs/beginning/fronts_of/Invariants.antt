use Rattle.std.proofs.Common.{◌≡◌}
use Rattle.kept_restore.specs.Beginnings.{fronts_to}
use Rattle.kept_restore.proofs.beginning.fronts_of.Given as goal

-- those before were counted
abbrev pub invariant-loop-index : goal.invariant-loop-index
invariant-loop-index l = l.fronts.items ≡ fronts_to l.files l.index
