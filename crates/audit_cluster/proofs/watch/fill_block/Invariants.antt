use Rattle.std.proofs.Common.{◌+◌}
use Rattle.audit_cluster.specs.Following.{AreRestarts}
use Rattle.audit_cluster.proofs.watch.fill_block.Given as goal

-- so many restarts, of this vnode
abbrev pub invariant-loop : goal.invariant-loop
invariant-loop g l = AreRestarts (l.cluster.first + l.index) l.counter l.initial.pass.told l.pass.told
