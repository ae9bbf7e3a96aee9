use Rattle.http_connections.proofs.ClientLemmas.{alters_set, there_is}
use Rattle.server_one_thread.proofs.TogetherLemmas.{shows_kept}
use Rattle.server_one_thread.proofs.together.deliver.Goals as goal

pub returns-in-Some : goal.returns-in-Some
returns-in-Some c = λ sockets shown.
    shows_kept c.args.delivery.now.client c.args.clients.now.items _ sockets
    (alters_set c.args.delivery.now.client (λ x. x) c.args.clients.now.items c.in-Some.client.now c.arrive.new.client
    (there_is c.args.clients.now.items c.args.delivery.now.client c.in-Some.client.now c.in-Some.ensures.item.3.0 c.in-Some.ensures.item.1) c.arrive.ensures)
    shown
