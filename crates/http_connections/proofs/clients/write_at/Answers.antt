use Rattle.http_connections.specs.Sockets.{after_write}
use Rattle.http_connections.proofs.ClientLemmas.{alters_set, alters_none, there_is, none_is}
use Rattle.http_connections.proofs.clients.write_at.Goals as goal

pub returns-in-Some-clause-alters : goal.returns-in-Some-clause-alters
returns-in-Some-clause-alters c = alters_set c.args.i (after_write c.write.result c.args.bytes.now) c.args.clients.now.items c.in-Some.client.now c.write.new.self (there_is c.args.clients.now.items c.args.i c.in-Some.client.now c.in-Some.ensures.item.3.0 c.in-Some.ensures.item.1) c.write.ensures.after

pub returns-in-None-clause-alters : goal.returns-in-None-clause-alters
returns-in-None-clause-alters c = alters_none c.args.i _ c.args.clients.now.items (none_is c.args.clients.now.items c.args.i c.in-None.ensures.item.3)
