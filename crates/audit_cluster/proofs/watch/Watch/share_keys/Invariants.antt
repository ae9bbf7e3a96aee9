use Rattle.std.proofs.Common.{◌≡◌}
use Rattle.audit_cluster.proofs.watch.Watch.share_keys.Given as goal

-- nothing that is seen of the follower has changed
abbrev pub invariant-loop-index : goal.invariant-loop-index
invariant-loop-index g l = l.self-inside ≡ l.initial.self-inside
