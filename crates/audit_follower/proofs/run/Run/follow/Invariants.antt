use Rattle.std.specs.Prelude.{◌≡◌, None, length}
use Rattle.audit_replay.specs.Reran.{GoOnFrom}
use Rattle.audit_replay.specs.Runs.{IsRunFrom}
use Rattle.audit_follower.specs.Waiting.{AreTakenAlike, count_waiting}
use Rattle.audit_follower.proofs.run.Run.follow.Given as goal

abbrev pub invariant-loop-index : goal.invariant-loop-index
invariant-loop-index l = record {
  size : length l.self.waiting.items ≡ length l.self.rerun.logs;
  going : l.self.rerun.fault ≡ None;
  run : IsRunFrom l.initial.self.rerun.fronts l.self.rerun.logs;
  fronts : l.self.rerun.fronts ≡ l.initial.self.rerun.fronts;
  recent : l.self.rerun.recent ≡ l.initial.self.rerun.recent;
  longer : GoOnFrom l.initial.self.rerun.logs l.self.rerun.logs;
  alike : AreTakenAlike l.initial.self.rerun.logs l.initial.self.waiting.items l.self.rerun.logs l.self.waiting.items;
}

abbrev pub decreases-loop-index : goal.decreases-loop-index
decreases-loop-index l = count_waiting l.self.waiting.items
