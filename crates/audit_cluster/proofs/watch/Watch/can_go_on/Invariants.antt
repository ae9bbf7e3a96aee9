use Rattle.std.proofs.Common.{◌≡◌, ◌+◌, take}
use Rattle.audit_follower.specs.Waiting.{count_waiting}
use Rattle.audit_cluster.proofs.watch.Watch.can_go_on.Given as goal

-- so many, but for those that wait of the vnodes so far, are left
abbrev pub invariant-loop-index : goal.invariant-loop-index
invariant-loop-index g l = count_waiting (take l.index l.self.taken.waiting) + l.left ≡ l.many
