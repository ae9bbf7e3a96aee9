use Rattle.std.specs.Prelude.{◌≡◌, ◌≤◌, [], None}
use Rattle.journal.specs.Logs.{max_entries}
use Rattle.audit_replay.specs.Fronts.{HasRun}
use Rattle.audit_replay.specs.Sorting.{left}
use Rattle.audit_replay.specs.Turns.{AreHeads}
use Rattle.audit_replay.proofs.sources.check_sources.Given as goal

abbrev pub invariant-loop-head : goal.invariant-loop-head
invariant-loop-head l = record { run : HasRun l.journals l.counts.items l.rerun.logs; going : l.rerun.fault ≡ None; all : max_entries ≤ l.rerun.recent.always; fronts : l.rerun.fronts ≡ []; heads : AreHeads l.journals l.counts.items l.heads }

abbrev pub decreases-loop-head : goal.decreases-loop-head
decreases-loop-head l = left l.journals l.counts.items
