use Rattle.http_connections.specs.Sockets.{after_accept}
use Rattle.http_connections.proofs.ClientLemmas.{alters_set, there_is}
use Rattle.http_connections.proofs.clients.accept_at.Goals as goal

pub returns-in-Some-clause-yes : goal.returns-in-Some-clause-yes
returns-in-Some-clause-yes c = λ yes.
    let is = there_is c.args.clients.now.items c.args.i c.in-Some.client.now c.in-Some.ensures.item.3.0 c.in-Some.ensures.item.1 in
    let greets = c.greet.ensures.yes yes in
    (c.in-Some.client.now, is, greets.0, alters_set c.args.i after_accept c.args.clients.now.items c.in-Some.client.now c.greet.new.self is greets.1)
