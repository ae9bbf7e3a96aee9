use Rattle.std.proofs.Common.{◌≡◌, ◌<◌, ℕ, None}
use Rattle.std.specs.Prelude.{slice_index_or}
use Rattle.kept_restore.proofs.beginning.all_loaded.Given as goal

-- those before have
abbrev pub invariant-loop-index : goal.invariant-loop-index
invariant-loop-index g l = (i : ℕ) (d : _) → i < l.index → (slice_index_or l.loaders i d).fault ≡ None
