use Rattle.std.proofs.Common.{◌≡◌, take}
use Rattle.vnode.specs.Names.{all_keys}
use Rattle.vnode.proofs.names.Names.copies.Given as goal

abbrev pub invariant-loop-run : goal.invariant-loop-run
invariant-loop-run l = l.keys.items ≡ all_keys (take l.run-index l.run-items)
