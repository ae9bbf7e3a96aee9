use Rattle.std.proofs.Common.{◌≡◌, List}
use Rattle.http_connection.specs.Dialogue.{Exchange}
use Rattle.http_connections.specs.Sockets.{Sockets}
use Rattle.http_connections.specs.Spoken.{Serves, Attends}
use Rattle.http_connections.proofs.seat.Seat.attend.Given as goal

-- so far it was served
abbrev pub invariant-loop : goal.invariant-loop
invariant-loop g l = record {
  served : (old : Sockets) (xs : List Exchange) → g.R.Ring.shows l.initial.ring old → Serves (g.B.Backend.copies l.initial.backend) l.initial.self (old l.number) xs
      → Attends g.B.Backend.gives (g.R.Ring.shows l.ring) l.number old l.initial.backend l.backend xs (Serves (g.B.Backend.copies l.initial.backend) l.self);
  stays : g.B.Backend.copies l.backend ≡ g.B.Backend.copies l.initial.backend;
}
