use Rattle.std.proofs.Common.{ap, refl, subst, ◌∙◌}
use Rattle.std.specs.Prelude.{Ok, Err}
use Rattle.server_store.specs.Calls.{Gets}
use Rattle.server_store.specs.View.{shown}
use Rattle.server_store.proofs.CallLemmas.{list_is, coordinator_is, get_fails, get_answers, noted_is}
use Rattle.server_store.proofs.store.Store.read.Goals as goal

pub returns-after-not-is_empty-clause-gets : goal.returns-after-not-is_empty-clause-gets
returns-after-not-is_empty-clause-gets g c =
    let s = c.args.self.now in
    let old = shown c.stand_of-stand.new.peers s.hooking.hooks s.hooking.table.listed s.placement s.noted.kinds in
    let new = shown c.resolve-resolved.new.peers c.resolve-resolved.new.hooking.hooks c.resolve-resolved.new.hooking.table.listed s.placement c.note.new.self.kinds in
    subst (λ peers. Gets g.P.Peers.happens g.H.Hooks.finds (shown peers s.hooking.hooks s.hooking.table.listed s.placement s.noted.kinds) c.args.key.now c.args.r c.args.at (Ok c.resolve-resolved.result.state) new) c.stand_of-stand.ensures.same
    (get_answers g.P.Peers.happens g.H.Hooks.finds old new c.args.key.now c.args.r c.args.at _ _ _ _ _ _ _ c.in-Ok.answers _ _ _ _
    (c.as_slice.ensures ∙ list_is old c.args.key.now _ _ c.preferred-list.ensures.list c.stand_of-stand.ensures.place)
    (coordinator_is old c.args.key.now _ _ c.args.at c.vnode_at-coordinator.ensures.vnode c.stand_of-stand.ensures.place)
    c.deref.ensures.value c.deref-in-Ok.ensures.value c.in-Ok.ensures.calls c.repair.ensures.calls c.resolve-resolved.ensures.calls c.resolve-resolved.ensures.unfit
    (noted_is c.note.new.self.kinds s.noted.kinds _ _ _ _ c.note.ensures c.of_resolver.ensures c.bucket.ensures)
    (ap (λ t. t.listed) c.resolve-resolved.ensures.table, refl))

pub returns-in-Err-clause-gets : goal.returns-in-Err-clause-gets
returns-in-Err-clause-gets g c =
    let s = c.args.self.now in
    let old = shown c.stand_of-stand.new.peers s.hooking.hooks s.hooking.table.listed s.placement s.noted.kinds in
    let new = shown c.get-read.new.peers s.hooking.hooks s.hooking.table.listed s.placement c.note-in-Err.new.self.kinds in
    subst (λ peers. Gets g.P.Peers.happens g.H.Hooks.finds (shown peers s.hooking.hooks s.hooking.table.listed s.placement s.noted.kinds) c.args.key.now c.args.r c.args.at (Err c.in-Err.fault) new) c.stand_of-stand.ensures.same
    (get_fails g.P.Peers.happens g.H.Hooks.finds old new c.args.key.now c.args.r c.args.at _ c.in-Err.fault
    (c.as_slice.ensures ∙ list_is old c.args.key.now _ _ c.preferred-list.ensures.list c.stand_of-stand.ensures.place)
    c.in-Err.ensures.calls refl (noted_is c.note-in-Err.new.self.kinds s.noted.kinds _ _ _ _ c.note-in-Err.ensures c.of_fault.ensures c.bucket-in-Err.ensures) (refl, refl))
