use Rattle.std.proofs.Common.{◌≡◌, ◌-◌, ◌^◌, length, min, take}
use Rattle.std.specs.List.{flat_map}
use Rattle.vnode.specs.Shards.{known_keys}
use Rattle.vnode.proofs.states.States.len.Given as goal

abbrev pub invariant-loop-shard : goal.invariant-loop-shard
invariant-loop-shard l = l.count ≡ min (length (flat_map (λ s. known_keys s.entries) (take l.shard-index l.shard-items))) (2 ^ 64 - 1)
