use Rattle.server_sockets.specs.Work.{Works}
use Rattle.server_sockets.proofs.worker.Worker.attend_called.Given as goal

-- what was done for those before
abbrev pub invariant-loop : goal.invariant-loop
invariant-loop g l = Works g.B.Backend.gives g.B.Backend.copies l.initial.self l.self l.initial.backend l.backend
