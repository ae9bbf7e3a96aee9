use Rattle.std.proofs.Common.{◌≡◌, ◌+◌, take}
use Rattle.audit_follower.specs.Waiting.{bytes_waiting}
use Rattle.audit_cluster.proofs.watch.Watch.holds_less.Given as goal

-- so many, but for those of the vnodes so far, are left
abbrev pub invariant-loop-index : goal.invariant-loop-index
invariant-loop-index g l = bytes_waiting (take l.index l.self.taken.waiting) + l.left ≡ l.bytes
