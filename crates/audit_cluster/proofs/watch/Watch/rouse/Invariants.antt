use Rattle.std.proofs.Common.{◌≡◌}
use Rattle.audit_cluster.proofs.Taken.{RousesUpTo}
use Rattle.audit_cluster.proofs.watch.Watch.rouse.Given as goal

-- so many vnodes were roused, and nothing else has changed
abbrev pub invariant-loop-index : goal.invariant-loop-index
invariant-loop-index g l = record {
  told : RousesUpTo l.index g.B.Spot.first l.initial.self-inside.follower l.initial.self-inside.pass.told l.self-inside.pass.told;
  follower : l.self-inside.follower ≡ l.initial.self-inside.follower;
  left : l.self-inside.left ≡ l.initial.self-inside.left;
  lost : l.self-inside.lost ≡ l.initial.self-inside.lost;
  first : l.self-inside.first ≡ l.initial.self-inside.first;
  vnodes : l.self-inside.vnodes ≡ l.initial.self-inside.vnodes;
}
