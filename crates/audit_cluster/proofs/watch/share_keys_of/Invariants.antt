use Rattle.std.proofs.Common.{◌≡◌}
use Rattle.audit_cluster.proofs.watch.share_keys_of.Given as goal

-- nothing that is seen of the follower has changed
abbrev pub invariant-loop : goal.invariant-loop
invariant-loop g l = l.follower ≡ l.fn.follower
