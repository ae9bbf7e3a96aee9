use Rattle.std.proofs.Common.{◌≡◌}
use Rattle.audit_cluster.specs.Following.{IsTakenTo}
use Rattle.audit_cluster.proofs.ending.take_rest.Given as goal

-- what was left of the journals so far was taken
abbrev pub invariant-loop-index : goal.invariant-loop-index
invariant-loop-index l = record {
  taken : IsTakenTo l.initial.follower l.follower l.vnodes l.index;
  fault : l.follower.fault ≡ l.initial.follower.fault;
  recent : l.follower.recent ≡ l.initial.follower.recent;
  fronts : l.follower.fronts ≡ l.initial.follower.fronts;
}
