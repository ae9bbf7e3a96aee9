use Rattle.server_sockets.specs.Work.{Stays}
use Rattle.server_sockets.proofs.worker.Worker.seat.Given as goal

-- those before have their seats
abbrev pub invariant-loop : goal.invariant-loop
invariant-loop g l = Stays l.initial.self l.self
