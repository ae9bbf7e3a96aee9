use Rattle.http_connections.specs.Sockets.{after_close}
use Rattle.http_connections.proofs.ClientLemmas.{alters_set, alters_none, there_is, none_is}
use Rattle.http_connections.proofs.clients.close_at.Goals as goal

pub returns-in-Some : goal.returns-in-Some
returns-in-Some c = alters_set c.args.i (after_close c.args.closing) c.args.clients.now.items c.in-Some.client.now c.close.new.self (there_is c.args.clients.now.items c.args.i c.in-Some.client.now c.in-Some.ensures.item.3.0 c.in-Some.ensures.item.1) c.close.ensures

pub returns-in_default : goal.returns-in_default
returns-in_default c = alters_none c.args.i _ c.args.clients.now.items (none_is c.args.clients.now.items c.args.i c.in_default.ensures.item.3)
