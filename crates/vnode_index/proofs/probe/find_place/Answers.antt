use Rattle.std.proofs.Common.{◌≡◌, ◌∙◌, ◌+◌, ℕ, length, arith, ap, sym, inl, inr}
use Rattle.std.proofs.lemmas.Bool.{cases_order}
use Rattle.std.proofs.lemmas.List.{get_or_read}
use Rattle.vnode_index.specs.Slots.{Slot, free, slot_at, item_at, probed}
use Rattle.vnode_index.proofs.Probing.{from_home}
use Rattle.vnode_index.proofs.probe.find_place.Goals as goal

-- the probe is at a free slot, so it came to the one that is reached before
pub returns-then-item-eq0-clause-absent : goal.returns-then-item-eq0-clause-absent
returns-then-item-eq0-clause-absent g c = λ p i is reached.
    let slots = c.args.slots.now in
    let step : ℕ = c.loop-step.step in
    let here = from_home (length slots) c.args.hash step c.home-home.result c.probed.result c.home-home.ensures.value c.probed.ensures.value in
    let read = get_or_read slots c.probed.result _ c.probed.ensures.within c.index-slots-probed.is free in
    let none : item_at slots (probed (length slots) c.args.hash step) ≡ 0 = ap (item_at slots) (sym here) ∙ sym (ap (λ (s : Slot). s.item) read) ∙ sym c.item.ensures ∙ c.if-item-eq0.true in
    let some : item_at slots (probed (length slots) c.args.hash reached.step) ≡ i + 1 = ap (item_at slots) (sym reached.there) ∙ ap (λ (s : Slot). s.item) is in
    elim (cases_order reached.step step) [
      | inl now ↦ absurd (omega (arith, none, some, ap (λ j. item_at slots (probed (length slots) c.args.hash j)) now))
      | inr (inl before) ↦ c.loop-step.invariant reached.step i before (ap (λ q. slot_at slots q) (sym reached.there) ∙ is)
      | inr (inr later) ↦ absurd (omega (arith, none, reached.passes step later))
    ]
