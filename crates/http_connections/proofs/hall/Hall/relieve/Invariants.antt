use Rattle.http_connections.specs.Halls.{AllStand, Log, seat_at}
use Rattle.http_connections.specs.Sockets.{Sockets}
use Rattle.http_connections.specs.Full.{Sheds, unsent_in}
use Rattle.std.proofs.Common.{ℕ}
use Rattle.http_connections.proofs.hall.Hall.relieve.Given as goal

-- those so far held most, and all others stand
abbrev pub invariant-loop-self : goal.invariant-loop-self
invariant-loop-self g l = record {
  stands : (copies : ℕ) (log : Log) (old : Sockets) → g.R.Ring.shows l.initial.ring old → AllStand copies log old (seat_at l.initial.self)
      → (new : Sockets) × g.R.Ring.shows l.ring new × AllStand copies log new (seat_at l.self);
  sheds : Sheds l.initial.self l.self;
}

abbrev pub decreases-loop-self : goal.decreases-loop-self
decreases-loop-self g l = unsent_in l.self
