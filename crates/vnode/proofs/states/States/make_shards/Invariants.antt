use Rattle.std.proofs.Common.{◌≡◌, length}
use Rattle.key_state.specs.declared.content.Key.{Key}
use Rattle.vnode.specs.States.{AreInPlace, found_at}
use Rattle.vnode.proofs.states.States.make_shards.Given as goal

abbrev pub invariant-loop-shard : goal.invariant-loop-shard
invariant-loop-shard l =
    ((q : Key) → found_at l.self q ≡ found_at l.fn.self q) × (AreInPlace l.fn.self → AreInPlace l.self) × (length l.self.shards.items ≡ l.shard) × (l.self.seed ≡ l.fn.self.seed)
