use Rattle.ring.specs.Places.{copies_in}
use Rattle.server_one_thread.specs.Passes.{GivesUnnoted, unnoted}
use Rattle.dvvstore.proofs.VisitLemmas.{leads_on, leads_round}
use Rattle.dvvstore.proofs.crew.working.take_turn.Goals as goal

pub returns : goal.returns
returns g c = record {
  leads = λ start leads.
      leads_round (GivesUnnoted g.P.Peers.happens g.H.Hooks.finds g.H.Hooks.names g.H.HookChanges.takes) (λ s. copies_in s.placement)
      c.work_once-worked.new.store c.keep_turn.new.store g.K.Backend.gives g.K.Backend.copies (λ k. unnoted (g.K.NotingBackend.shows k))
      (λ old new call reply h. (_, _, g.met.K.NotingBackend.as_shown old new call reply h)) (λ k. g.met.K.NotingBackend.as_many k)
      start c.work_once-worked.new.worker c.keep_turn.new.worker c.shed_if_asked.new.worker _ c.tell_troubles.ensures.stays
      (leads_on (GivesUnnoted g.P.Peers.happens g.H.Hooks.finds g.H.Hooks.names g.H.HookChanges.takes) (λ s. copies_in s.placement)
      c.args.store.now c.work_once-worked.new.store g.K.Backend.gives g.K.Backend.copies (λ k. unnoted (g.K.NotingBackend.shows k))
      (λ old new call reply h. (_, _, g.met.K.NotingBackend.as_shown old new call reply h)) (λ k. g.met.K.NotingBackend.as_many k)
      start c.args.worker.now c.work_once-worked.new.worker leads c.work_once-worked.ensures.works)
      c.keep_turn.ensures.works c.shed_if_asked.ensures.stays;
}
