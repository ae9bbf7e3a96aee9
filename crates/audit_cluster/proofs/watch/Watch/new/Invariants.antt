use Rattle.std.proofs.Common.{◌≡◌, vec_len}
use Rattle.audit_cluster.proofs.Taken.{AreNumbered}
use Rattle.audit_cluster.proofs.watch.Watch.new.Given as goal

-- so many identifiers, numbered from the first on
abbrev pub invariant-loop-index : goal.invariant-loop-index
invariant-loop-index g l = record { long : vec_len l.ids ≡ l.index; numbered : AreNumbered l.first l.ids.items }
