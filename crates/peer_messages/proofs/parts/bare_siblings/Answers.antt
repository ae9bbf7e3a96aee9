use Rattle.peer_messages.specs.Filling.{bare_of}
use Rattle.peer_messages.proofs.Listing.{gathers_one}
use Rattle.peer_messages.proofs.parts.bare_siblings.Goals as goal

pub loop-sibling-preserved : goal.loop-sibling-preserved
loop-sibling-preserved c = gathers_one bare_of c.loop-sibling.all.items _ c.args.siblings.now c.loop-sibling.sibling-index c.sibling-item.result c.loop-sibling-test.true c.sibling-item.is c.loop-sibling.invariant c.in_ok-push_bare.ensures
