use Rattle.std.specs.Prelude.{◌≢◌, ◌<◌, ℕ}
use Rattle.world.specs.Represents.{log_at}
use Rattle.test_store.proofs.parts.judging.is_new.Given as goal

-- none of those so far is this vnode's
abbrev pub invariant-loop-index : goal.invariant-loop-index
invariant-loop-index l = (index : ℕ) → index < l.index → (log_at l.journals index).vnode ≢ l.vnode
