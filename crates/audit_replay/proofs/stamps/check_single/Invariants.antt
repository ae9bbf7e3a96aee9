use Rattle.audit_replay.specs.Sorting.{left, IsSplit, IsOnce, IsLast}
use Rattle.audit_replay.specs.Turns.{AreHeads}
use Rattle.audit_replay.proofs.stamps.check_single.Given as goal

abbrev pub invariant-loop-head : goal.invariant-loop-head
invariant-loop-head l = record { split : IsSplit l.journals l.counts.items; once : IsOnce l.journals l.counts.items; last : IsLast l.journals l.counts.items l.last; heads : AreHeads l.journals l.counts.items l.heads }

abbrev pub decreases-loop-head : goal.decreases-loop-head
decreases-loop-head l = left l.journals l.counts.items
