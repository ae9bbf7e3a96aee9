use Rattle.peer_messages.specs.Messages.{part_sibling}
use Rattle.record_codec.proofs.Sizes.{adds_one}
use Rattle.peer_messages.proofs.parts.put_each.Goals as goal

pub loop-one-preserved : goal.loop-one-preserved
loop-one-preserved c = adds_one part_sibling c.args.out.now.items c.loop-one.out.items _ c.args.all.now c.loop-one.one-index c.one-item.result c.loop-one-test.true c.one-item.is c.loop-one.invariant c.in_ok-put_part_sibling.ensures
