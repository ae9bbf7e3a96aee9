use Rattle.std.proofs.Common.{◌≡◌, ◌++◌, take}
use Rattle.vnode.proofs.names.push_copies.Given as goal

abbrev pub invariant-loop-key : goal.invariant-loop-key
invariant-loop-key l = l.keys.items ≡ l.fn.keys.items ++ take l.key-index l.some
