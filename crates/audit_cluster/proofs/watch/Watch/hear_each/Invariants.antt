use Rattle.audit_cluster.specs.Following.{IsToldMore}
use Rattle.audit_cluster.proofs.watch.Watch.hear_each.Given as goal

-- the pass was told more
abbrev pub invariant-loop-index : goal.invariant-loop-index
invariant-loop-index g l = record { told : IsToldMore l.initial.self.told l.self.told }
