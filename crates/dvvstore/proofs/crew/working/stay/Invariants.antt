use Rattle.server_accept.specs.Waiting.{HasHadNone}
use Rattle.ring.specs.Places.{copies_in}
use Rattle.server_one_thread.specs.Passes.{GivesUnnoted, unnoted}
use Rattle.dvvstore.specs.Visits.{Leads}
use Rattle.dvvstore.proofs.crew.working.stay.Given as goal

-- the calls of the connections so far
abbrev pub invariant-loop : goal.invariant-loop
invariant-loop g l =
    HasHadNone l.initial.worker
    → Leads (GivesUnnoted g.P.Peers.happens g.H.Hooks.finds g.H.Hooks.names g.H.HookChanges.takes) (λ s. copies_in s.placement)
    (unnoted (g.K.NotingBackend.shows l.initial.store)) l.worker (unnoted (g.K.NotingBackend.shows l.store))
