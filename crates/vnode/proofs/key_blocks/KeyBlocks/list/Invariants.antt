use Rattle.std.proofs.Common.{◌≡◌, ◌++◌, take}
use Rattle.vnode.specs.Names.{all_of}
use Rattle.vnode.proofs.key_blocks.KeyBlocks.list.Given as goal

abbrev pub invariant-loop-block : goal.invariant-loop-block
invariant-loop-block l = l.names.keys ≡ l.fn.names.keys ++ all_of (take l.block-index l.block-items)
