use Rattle.std.proofs.Common.{ap, refl, subst, ◌∙◌}
use Rattle.server_store.specs.Calls.{Puts}
use Rattle.server_store.specs.View.{shown}
use Rattle.server_store.proofs.CallLemmas.{others_are, coordinator_is, put_is, noted_is}
use Rattle.server_store.proofs.store.Store.put.Goals as goal

pub returns : goal.returns
returns g c =
    let s = c.args.self.now in
    let old = shown c.stand_of-stand.new.peers s.hooking.hooks s.hooking.table.listed s.placement s.noted.kinds in
    let new = shown c.put-back.new.peers c.put-back.new.hooking.hooks c.put-back.new.hooking.table.listed s.placement c.note.new.self.kinds in
    subst (λ peers. Puts g.P.Peers.happens g.H.Hooks.finds (shown peers s.hooking.hooks s.hooking.table.listed s.placement s.noted.kinds) c.args.key.now c.args.seen.now c.args.content.now c.args.w c.args.at c.put-back.result new) c.stand_of-stand.ensures.same
    (put_is g.P.Peers.happens g.H.Hooks.finds old new c.args.key.now c.args.seen.now c.args.content.now c.args.w c.args.at c.put-back.result _ _
    (coordinator_is old c.args.key.now _ _ c.args.at c.vnode_at.ensures.vnode c.stand_of-stand.ensures.place)
    (c.as_slice.ensures ∙ others_are old c.args.key.now _ _ c.args.at c.others-others.ensures.list c.stand_of-stand.ensures.place)
    c.put-back.ensures.calls (ap (λ t. t.listed) c.put-back.ensures.table, refl)
    (noted_is c.note.new.self.kinds s.noted.kinds _ _ _ _ c.note.ensures c.of_put.ensures c.bucket.ensures))
