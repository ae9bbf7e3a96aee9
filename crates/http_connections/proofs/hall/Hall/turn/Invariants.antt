use Rattle.http_connections.specs.Sockets.{Sockets}
use Rattle.http_connections.specs.Halls.{AllRestBut, HallStands, seat_at}
use Rattle.http_connections.proofs.hall.Hall.turn.Given as goal

-- the hall stands so far, and those that were attended rest
abbrev pub invariant-loop-number : goal.invariant-loop-number
invariant-loop-number g l =
    (start : g.row.B.Denot) (old : Sockets) → g.R.Ring.shows l.initial.ring old
    → HallStands g.B.Backend.gives g.B.Backend.copies start l.initial.backend old (seat_at l.initial.self)
    → (new : Sockets) × g.R.Ring.shows l.ring new × HallStands g.B.Backend.gives g.B.Backend.copies start l.backend new (seat_at l.self)
    × (AllRestBut l.reported 0 old (seat_at l.initial.self) → AllRestBut l.reported l.number-index new (seat_at l.self))
