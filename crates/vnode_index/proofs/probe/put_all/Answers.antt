use Rattle.std.proofs.Common.{◌≡◌, ◌<◌, ℕ, ◌≤◌, length, ap, subst, sym, ◌∙◌, arith, take}
use Rattle.std.proofs.lemmas.List.{get_or_read}
use Rattle.vnode_index.specs.Slots.{Slot, Puts, free, item_at, slot_at, taken}
use Rattle.vnode_index.proofs.Probing.{taken_none, taken_more, taken_front, weight_some, weight_none}
use Rattle.vnode_index.proofs.Putting.{free_items, free_taken, rehash_none, rehash_skip, rehash_put, put_taken}
use Rattle.vnode_index.proofs.probe.put_all.Goals as goal
use Rattle.vnode_index.proofs.probe.put_all.Goals.{then-item-ne0, else-item-ne0}

pub loop-slot-init : goal.loop-slot-init
loop-slot-init c = record {
  all = rehash_none c.args.from.now c.args.to.now (free_items c.args.to.now (length c.args.to.now) c.requires.free);
  taken = ap taken c.requires.free ∙ (free_taken (length c.args.to.now) ∙ sym taken_none);
}

pub put-requires-clause-free : goal.put-requires-clause-free
put-requires-clause-free c =
    let few : taken (take c.loop-slot.slot-index c.args.from.now) ≤ c.loop-slot.slot-index = taken_front c.args.from.now c.loop-slot.slot-index in
    omega (arith, few, c.loop-slot.invariant.taken, c.requires.larger)

pub loop-slot-preserved : goal.loop-slot-preserved
loop-slot-preserved c =
    let from = c.args.from.now in
    let k : ℕ = c.loop-slot.slot-index in
    let more = taken_more from k c.loop-slot-test.true in
    let was = c.loop-slot.invariant in
    let is : c.slot-item.result ≡ slot_at from k = get_or_read from k _ c.loop-slot-test.true c.slot-item.is free in
    let item : c.item.result ≡ item_at from k = c.item.ensures ∙ ap (λ (slot : Slot). slot.item) is in
    elim c.if-item-ne0.branch [
      | then-item-ne0 w ↦
          let some : 0 < item_at from k = omega (arith, item, w.if-item-ne0.true) in
          let puts = subst (λ (slot : Slot). Puts c.loop-slot.to slot w.put.new.slots) is w.put.ensures in
          record {
            all = rw w.to-is (rehash_put from c.loop-slot.to w.put.new.slots k c.requires.probed was.all some puts);
            taken = rw w.to-is (omega (arith, put_taken c.loop-slot.to (slot_at from k) w.put.new.slots some puts, was.taken, more, weight_some (slot_at from k) some));
          }
      | else-item-ne0 w ↦
          let none : item_at from k ≡ 0 = sym item ∙ w.if-item-ne0.false in
          record {
            all = rw w.to-is (rehash_skip from c.loop-slot.to k was.all none);
            taken = rw w.to-is (omega (arith, was.taken, more, weight_none (slot_at from k) none));
          }
    ]
