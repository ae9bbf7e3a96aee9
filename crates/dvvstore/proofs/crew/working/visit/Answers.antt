use Rattle.std.proofs.Common.{◌≡◌, ◌∙◌, [], ap}
use Rattle.server_store.specs.View.{shown}
use Rattle.cluster_peers.specs.Peering.{PassStep, Reach}
use Rattle.dvvstore.proofs.VisitLemmas.{begun_as, visited_by}
use Rattle.dvvstore.proofs.crew.working.visit.Goals as goal

pub returns : goal.returns
returns g c = record {
  visited = λ none.
      let is : c.new-recorder.result.store ≡ c.new-store.result = c.new-recorder.ensures in
      let peers : c.new-recorder.result.store.peers ≡ c.new-peers.result = ap (λ r. r.peers) is ∙ c.new-store.ensures.peers in
      let is_new = peers ∙ c.new-peers.ensures in
      visited_by g.H.Hooks.finds g.H.Hooks.names g.H.HookChanges.takes (λ old call new. PassStep old.size old.pass old.failures call new.pass new.failures 0 0 new.size)
      (λ p. record { size = p.size; pass = p.pass; failures = p.failures; origin = 0 })
      (shown c.new-recorder.result.store.peers c.new-recorder.result.store.hooking.hooks c.new-recorder.result.store.hooking.table.listed c.new-recorder.result.store.placement [])
      (shown c.stay.new.store.store.peers c.stay.new.store.store.hooking.hooks c.stay.new.store.store.hooking.table.listed c.stay.new.store.store.placement []) _ _
      (begun_as _ _ _ _ _ _ _ _ _ _ _ (ap (λ (p : Reach). p.size) is_new) (ap (λ (p : Reach). p.pass) is_new) (ap (λ (p : Reach). p.failures) is_new)
      (ap (λ r. r.hooking.hooks) is ∙ ap (λ k. k.hooks) c.new-store.ensures.hooking) (ap (λ r. r.hooking.table.listed) is ∙ ap (λ k. k.table.listed) c.new-store.ensures.hooking) (ap (λ r. r.placement) is ∙ c.new-store.ensures.placement))
      c.into_pass.ensures
      (c.exchanges_are_by_a_pass.ensures (λ p. record { size = p.size; pass = p.pass; failures = p.failures; origin = 0 }) (λ old new call h. h))
      (c.stay.ensures.led none);
}
