use Rattle.std.proofs.Common.{◌≡◌, ◌+◌, ◌-◌, ◌/◌, ◌<◌, ℕ, ap, arith, length, drop, take, subst, sym, ◌∙◌, List, [], ◌∷◌, ◌++◌}
use Rattle.vnode_index.specs.Slots.{Slot, Indexed, slot_of, Puts, IsValid, hashes_of}
use Rattle.vnode_index.proofs.Hashes.{push_hashes, push_valid, room_seen, written_back}
use Rattle.vnode_index.proofs.index.Index.push.Goals as goal

pub put-requires-clause-free : goal.put-requires-clause-free
put-requires-clause-free c =
    let slots = c.self.inside.slots.items in
    let room : c.self.inside.len < length slots - length slots / 8 = room_seen slots c.self.inside.len c.args.self.now c.self.view_is c.requires in
    rw c.as_mut_slice.ensures.value (omega (arith, c.self.invariant.taken))

puts : (c : goal.After-self-2-1) → Puts c.self.inside.slots.items (slot_of c.args.hash c.self.inside.len) c.put.new.slots
puts c = subst (λ (old : List Slot). Puts old (slot_of c.args.hash c.self.inside.len) c.put.new.slots) c.as_mut_slice.ensures.value (subst (λ (slot : Slot). Puts c.as_mut_slice.result.now slot c.put.new.slots) c.new.ensures c.put.ensures)

written : (c : goal.After-self-2-1) → take c.self.inside.slots.len (c.put.new.slots ++ drop (length c.put.new.slots) c.self.inside.slots.items) ≡ c.put.new.slots
written c = written_back c.self.inside.slots.len c.put.new.slots _ (omega arith)

pub invariant_of-self : goal.invariant_of-self
invariant_of-self c =
    let n : ℕ = c.self.inside.len in
    let slots = c.self.inside.slots.items in
    let room = room_seen slots n c.args.self.now c.self.view_is c.requires in
    subst (λ (slots : List Slot). IsValid slots (n + 1)) (sym (written c)) (push_valid slots c.put.new.slots n c.args.hash c.self.invariant room (puts c))

pub returns-clause-hashes : goal.returns-clause-hashes
returns-clause-hashes c =
    let n : ℕ = c.self.inside.len in
    ap (λ (slots : List Slot). hashes_of slots (n + 1)) (written c)
    ∙ (push_hashes c.self.inside.slots.items c.put.new.slots n c.args.hash c.self.invariant.indexes (puts c)
    ∙ ap (λ (seen : Indexed). seen.hashes ++ c.args.hash ∷ []) c.self.view_is)
