use Rattle.std.proofs.Common.{ap}
use Rattle.ring.specs.Places.{copies_in}
use Rattle.server_one_thread.specs.Passes.{GivesUnnoted, unnoted}
use Rattle.dvvstore.proofs.VisitLemmas.{leads_as, leads_first, led}
use Rattle.dvvstore.proofs.crew.working.stay.Goals as goal
use Rattle.dvvstore.proofs.crew.working.stay.Goals.{in-None, in-Some+then-not-take_turn}

pub loop-init : goal.loop-init
loop-init g c = λ none.
    leads_first (GivesUnnoted g.P.Peers.happens g.H.Hooks.finds g.H.Hooks.names g.H.HookChanges.takes) (λ s. copies_in s.placement)
    (unnoted (g.K.NotingBackend.shows c.args.store.now)) c.args.worker none

pub loop-preserved : goal.loop-preserved
loop-preserved g c = λ none. c.take_turn.ensures.leads _ (c.loop.invariant none)

pub returns : goal.returns
returns g c = record {
  led = λ none.
      led (GivesUnnoted g.P.Peers.happens g.H.Hooks.finds g.H.Hooks.names g.H.HookChanges.takes) (λ s. copies_in s.placement)
      (unnoted (g.K.NotingBackend.shows c.args.store.now)) c.match-next.worker (unnoted (g.K.NotingBackend.shows c.match-next.store))
      (elim c.match-next.branch [
        | in-None w ↦
            leads_as (GivesUnnoted g.P.Peers.happens g.H.Hooks.finds g.H.Hooks.names g.H.HookChanges.takes) (λ s. copies_in s.placement) _ _ _ _ _
            w.worker-is (ap (λ k. unnoted (g.K.NotingBackend.shows k)) w.store-is) (c.loop.invariant none)
        | in-Some+then-not-take_turn w ↦
            leads_as (GivesUnnoted g.P.Peers.happens g.H.Hooks.finds g.H.Hooks.names g.H.HookChanges.takes) (λ s. copies_in s.placement) _ _ _ _ _
            w.worker-is (ap (λ k. unnoted (g.K.NotingBackend.shows k)) w.store-is) (w.take_turn.ensures.leads _ (c.loop.invariant none))
      ]);
}
