use Rattle.std.proofs.Common.{◌≡◌, ◌+◌, ◌/◌, ap, arith, drop, length, max, subst, sym, take, ◌∙◌, List, ◌++◌}
use Rattle.vnode_index.specs.Slots.{Slot, Indexed, HasRoom, taken, Rehashes, IsValid, hashes_of}
use Rattle.vnode_index.proofs.Hashes.{length_hashes, rehash_hashes, view, wider_room, wider_valid, written_back}
use Rattle.vnode_index.proofs.index.Index.grow.Goals as goal

long : (c : goal.After-drop-self-inside) → length c.put_all.new.to ≡ max (length c.self.inside.slots.items + length c.self.inside.slots.items / 4) (max c.args.fewest 8)
long c = omega (arith, c.in_ok-slots.ensures.len, c.max.ensures, c.max-more.ensures)

written : (c : goal.After-drop-self-inside) → take c.in_ok-slots.slots.len (c.put_all.new.to ++ drop (length c.put_all.new.to) c.in_ok-slots.slots.items) ≡ c.put_all.new.to
written c = written_back c.in_ok-slots.slots.len c.put_all.new.to _ (omega arith)

moved : (c : goal.After-drop-self-inside) → Rehashes c.self.inside.slots.items c.put_all.new.to (length c.self.inside.slots.items)
moved c = subst (λ (from : List Slot). Rehashes from c.put_all.new.to (length from)) c.as_slice.ensures.value c.put_all.ensures.all

pub invariant_of-self : goal.invariant_of-self
invariant_of-self c =
    let slots = c.self.inside.slots.items in
    let valid = wider_valid slots c.put_all.new.to c.self.inside.len c.self.invariant (omega (arith, long c), omega (arith, long c, c.if-more-gt-MOST_SLOTS.false)) (omega (arith, long c)) (moved c) (c.put_all.ensures.taken ∙ ap taken c.as_slice.ensures.value) in
    subst (λ (slots : List Slot). IsValid slots c.self.inside.len) (sym (written c)) valid

pub returns-clause-hashes : goal.returns-clause-hashes
returns-clause-hashes c =
    ap (λ (slots : List Slot). hashes_of slots c.self.inside.len) (written c)
    ∙ (rehash_hashes c.self.inside.slots.items c.put_all.new.to c.self.inside.len c.self.invariant.indexes (moved c) ∙ ap (λ (seen : Indexed). seen.hashes) c.self.view_is)

pub returns-clause-room : goal.returns-clause-room
returns-clause-room c =
    let room = wider_room (length c.self.inside.slots.items) c.self.inside.len (length c.put_all.new.to) c.self.invariant.count c.self.invariant.load (omega (arith, long c)) in
    subst (λ (slots : List Slot). HasRoom (view slots c.self.inside.len)) (sym (written c)) (omega (arith, room, length_hashes c.put_all.new.to c.self.inside.len))
