use Rattle.std.proofs.Common.{◌≡◌, [], replicate}
use Rattle.audit_follower.proofs.follower.queues.Given as goal

abbrev pub invariant-loop-index : goal.invariant-loop-index
invariant-loop-index l = l.queues.items ≡ replicate l.index []
