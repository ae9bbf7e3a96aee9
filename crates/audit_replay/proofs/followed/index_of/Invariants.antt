use Rattle.std.specs.Prelude.{◌≢◌, ◌<◌, ℕ}
use Rattle.world.specs.Represents.{log_at}
use Rattle.audit_replay.proofs.followed.index_of.Given as goal

abbrev pub invariant-loop-index : goal.invariant-loop-index
invariant-loop-index l = (index : ℕ) → index < l.index → (log_at l.vnodes index).vnode ≢ l.id
