use Rattle.std.specs.Prelude.{length}
use Rattle.audit_replay.proofs.Keeping.{AreGone}
use Rattle.audit_replay.proofs.kept.Answers.give_up.Given as goal

abbrev pub invariant-loop-recent : goal.invariant-loop-recent
invariant-loop-recent l = AreGone l.recent l.initial.self-inside.first l.initial.self-inside.here.items l.self-inside.first l.self-inside.here.items l.self-inside.bytes

abbrev pub decreases-loop-recent : goal.decreases-loop-recent
decreases-loop-recent l = length l.self-inside.here.items
