use Rattle.std.proofs.Common.{ℕ}
use Rattle.http_connections.specs.Clients.{Shows}
use Rattle.http_connections.specs.Halls.{AllStand, Log, seat_at}
use Rattle.http_connections.specs.Sockets.{Sockets}
use Rattle.server_one_thread.proofs.together.admit_all.Given as goal

-- all stand so far
abbrev pub invariant-loop : goal.invariant-loop
invariant-loop l =
    (copies : ℕ) (log : Log) (old : Sockets) → Shows l.initial.ring.clients.items old → AllStand copies log old (seat_at l.initial.hall)
    → (new : Sockets) × Shows l.ring.clients.items new × AllStand copies log new (seat_at l.hall)
