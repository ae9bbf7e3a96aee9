use Rattle.std.proofs.Common.{◌≡◌, take}
use Rattle.world.specs.Appending.{merges_of_copies}
use Rattle.world.proofs.loading.loaded.Given as goal

abbrev pub invariant-loop-index : goal.invariant-loop-index
invariant-loop-index l = l.vnode ≡ record { vnode = l.id; entries = merges_of_copies l.stamp l.from l.first (take l.index l.held) }
