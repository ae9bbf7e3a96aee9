use Rattle.std.proofs.Common.{◌+◌}
use Rattle.kept_restore.proofs.Merging.{AreLoading}
use Rattle.kept_restore.proofs.loads.Loading.load.Given as goal

-- those before were merged
abbrev pub invariant-loop-place : goal.invariant-loop-place
invariant-loop-place g l = AreLoading l.fn.pass l.pass (l.self.cluster.now.first + l.index) l.records l.place
