use Rattle.std.proofs.Common.{◌≡◌, take}
use Rattle.audit_cluster.proofs.Lists.{AreUpTo}
use Rattle.audit_cluster.proofs.closing.journals_of.Given as goal

-- the journals so far
abbrev pub invariant-loop-vnode : goal.invariant-loop-vnode
invariant-loop-vnode l = record { logs : l.journals.items ≡ take l.vnode-index l.vnodes; legal : AreUpTo l.vnodes l.vnode-index }
