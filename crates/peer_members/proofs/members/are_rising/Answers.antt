use Rattle.std.proofs.Common.{arith}
use Rattle.peer_members.proofs.Listing.{rises_on}
use Rattle.peer_members.proofs.members.are_rising.Goals as goal

pub loop-server-preserved : goal.loop-server-preserved
loop-server-preserved c = rises_on c.loop-server.least c.from-least.result c.args.servers.now c.loop-server.server-index c.server-item.result c.loop-server-test.true c.server-item.is c.from-least.ensures (omega arith) c.loop-server.invariant
