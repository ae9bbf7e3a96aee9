use Rattle.std.proofs.Common.{rules}
use Rattle.std.proofs.lemmas.Option.{get_or_from_slice_get}
use Rattle.vnode.proofs.key_blocks.KeyBlocks.is_at.Goals as goal

pub returns : goal.returns
returns c = let at = get_or_from_slice_get c.args.self.now.keys c.args.i c.get.result.now c.args.key.now c.get.ensures in search (rules, at)
