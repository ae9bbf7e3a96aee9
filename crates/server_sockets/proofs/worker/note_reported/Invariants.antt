use Rattle.std.specs.Prelude.{◌≡◌}
use Rattle.server_sockets.proofs.worker.note_reported.Given as goal

-- no connection came
abbrev pub invariant-loop-event : goal.invariant-loop-event
invariant-loop-event l = l.sockets.next ≡ l.initial.sockets.next
