use Rattle.std.specs.Prelude.{◌<◌, ◌≤◌, ℕ, length}
use Rattle.world.specs.Represents.{log_at}
use Rattle.audit_replay.specs.Turns.{count_at}
use Rattle.audit_replay.proofs.followed.Followed.lacking.Given as goal

-- none of the vnodes before lacks an entry of its front
abbrev pub invariant-loop-index : goal.invariant-loop-index
invariant-loop-index l = (index : ℕ) → index < l.index → count_at l.self.fronts.items index ≤ length (log_at l.self.vnodes.items index).entries
