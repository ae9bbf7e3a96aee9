use Rattle.std.proofs.Common.{◌≡◌, ◌+◌, [], ◌∷◌, ◌++◌, length, sym, ap, ◌∙◌, subst, length-append}
use Rattle.cluster_stamps.specs.declared.view.View.{View}
use Rattle.cluster_vnode.specs.Gathers.{AreVnodes}
use Rattle.cluster_vnode.proofs.Vnodes.{vnodes_push, history_of, takes_in, with_history}
use Rattle.cluster_vnode.proofs.gathering.join_vnodes.Goals as goal

pub loop-lock-preserved : goal.loop-lock-preserved
loop-lock-preserved g c =
    let i = c.loop-lock.invariant in
    let v = c.into_parts-vnode.ensures.vnode in
    let j = c.join.ensures in
    let w : c.join.new.card.me.0 ≡ with_history c.loop-lock.all.me.0 v.history = ap (λ m. m.0) j.1 ∙ takes_in c.loop-lock.all.me.0 _ v.history v.view in
    let hs : c.join.new.card.me.0.histories ≡ c.loop-lock.all.me.0.histories ++ v.history ∷ [] = ap (λ (y : View). y.histories) w in
    let all = vnodes_push c.loop-lock.vnodes.items c.loop-lock.all.me.0.histories _ v.history i.vnodes (history_of _ _ v) in
    record {
      can = (tt, tt);
      table = j.0 ∙ i.table;
      slots = ap (λ m. m.1) j.1 ∙ i.slots;
      same = (ap (λ (y : View). y.parts) w ∙ i.same.0, ap (λ (y : View). y.told) w ∙ i.same.1);
      pending = ap (λ (y : View). y.pending) w ∙ i.pending;
      owed = ap (λ (y : View). y.owed) w ∙ i.owed;
      vnodes = subst (λ ks. AreVnodes c.push_reserved.new.self.items ks) (sym hs) (subst (λ us. AreVnodes us (c.loop-lock.all.me.0.histories ++ v.history ∷ [])) (sym c.push_reserved.ensures.items) all);
      count = ap length hs ∙ length-append c.loop-lock.all.me.0.histories (v.history ∷ []) ∙ ap (λ n. n + 1) i.count ∙ sym (length-append c.loop-lock.yielded (c.in-Some.lock ∷ []));
      room = c.push_reserved.ensures.len ∙ ap (λ n. n + 1) i.room ∙ sym (length-append c.loop-lock.yielded (c.in-Some.lock ∷ []));
      capacity = c.push_reserved.ensures.capacity ∙ i.capacity;
    }
