use Rattle.std.proofs.Common.{◌≡◌}
use Rattle.world.specs.Knowledge.{ids_under}
use Rattle.world.specs.Represents.{empty_logs}
use Rattle.world.proofs.run.open.Given as goal

abbrev pub invariant-loop-index : goal.invariant-loop-index
invariant-loop-index l = l.made.items ≡ empty_logs (ids_under l.incarnation l.index)
