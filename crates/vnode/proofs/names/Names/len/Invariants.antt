use Rattle.std.proofs.Common.{◌≡◌, ◌-◌, ◌^◌, length, min, take}
use Rattle.vnode.specs.Names.{all_keys}
use Rattle.vnode.proofs.names.Names.len.Given as goal

abbrev pub invariant-loop-run : goal.invariant-loop-run
invariant-loop-run l = l.count ≡ min (length (all_keys (take l.run-index l.run-items))) (2 ^ 64 - 1)
