use Rattle.server_sockets.specs.Work.{Stays}
use Rattle.server_sockets.proofs.worker.Worker.sweep.Given as goal

-- those before are given up
abbrev pub invariant-loop : goal.invariant-loop
invariant-loop l = Stays l.initial.self l.self
