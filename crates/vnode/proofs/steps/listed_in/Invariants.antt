use Rattle.std.proofs.Common.{◌≡◌, take}
use Rattle.std.specs.List.{flat_map}
use Rattle.vnode.specs.Shards.{known_keys}
use Rattle.vnode.proofs.steps.listed_in.Given as goal

abbrev pub invariant-loop-shard : goal.invariant-loop-shard
invariant-loop-shard l = l.names.keys ≡ flat_map (λ s. known_keys s.entries) (take l.shard-index l.shard-items)
