use Rattle.std.proofs.Common.{◌≡◌, ◌<◌, ℕ, length}
use Rattle.world.specs.Represents.{log_at}
use Rattle.audit_cluster.proofs.ending.has_all.Given as goal

-- as many of each of the vnodes so far
abbrev pub invariant-loop-index : goal.invariant-loop-index
invariant-loop-index l = record {
  size : length l.follower.followed ≡ length l.vnodes;
  long : (index : ℕ) → index < l.index → length (log_at l.follower.followed index).entries ≡ length (log_at l.vnodes index).entries;
}
