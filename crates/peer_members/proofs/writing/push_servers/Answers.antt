use Rattle.peer_members.specs.Members.{server_text}
use Rattle.peer_members.proofs.Listing.{adds_one}
use Rattle.peer_members.proofs.writing.push_servers.Goals as goal

pub loop-server-preserved : goal.loop-server-preserved
loop-server-preserved c = adds_one server_text c.args.out.now.items c.loop-server.out.items _ c.args.servers.now c.loop-server.server-index c.server-item.result c.loop-server-test.true c.server-item.is c.loop-server.invariant c.in_ok-push_server.ensures
