use Rattle.http_connections.specs.Clients.{Shows}
use Rattle.http_connections.specs.Sockets.{unborn}
use Rattle.server_one_thread.proofs.together.connected.Given as goal

-- nothing came from those that connected so far
abbrev pub invariant-loop : goal.invariant-loop
invariant-loop l = Shows l.ring.clients.items (λ n. unborn)
