use Rattle.server_one_thread.specs.Together.{Plays}
use Rattle.server_one_thread.proofs.together.attend.Given as goal

-- the hall stands so far
abbrev pub invariant-loop : goal.invariant-loop
invariant-loop g l =
    (start : g.row.B.Denot) → Plays g.B.Backend.gives g.B.Backend.copies start l.initial.store l.initial.ring.clients.items l.initial.hall
    → Plays g.B.Backend.gives g.B.Backend.copies start l.store l.ring.clients.items l.hall
