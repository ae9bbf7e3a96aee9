use Rattle.std.proofs.Common.{◌≡◌, ◌-◌, ◌∙◌, ap, subst}
use Rattle.std.specs.Prelude.{Some, map, slice_get, vec_len}
use Rattle.std.specs.Result.{is_ok}
use Rattle.vnode.specs.RingPlaces.{number}
use Rattle.vnode.specs.declared.ring_places.RingPlaces.TheInside.{Inside}
use Rattle.vnode.proofs.Rings.{resized_told}
use Rattle.vnode.proofs.ring_places.RingPlaces.reach.Goals as goal
use Rattle.vnode.proofs.ring_places.RingPlaces.reach.Goals.{then-capacity-keys+in_ok-reserve_exact, else-capacity-keys}

-- more room holds the same
same : (c : goal.After-resize) → c.if-capacity-keys.self-inside.told.items ≡ c.self.inside.told.items
same c = elim c.if-capacity-keys.branch [
  | then-capacity-keys+in_ok-reserve_exact w ↦ ap (λ (i : Inside). i.told.items) w.self-inside-is ∙ w.reserve_exact.ensures.items
  | else-capacity-keys w ↦ ap (λ (i : Inside). i.told.items) w.self-inside-is
]

pub returns-clause-told : goal.returns-clause-told
returns-clause-told c = λ j p told.
    let before = c.if-capacity-keys.self-inside.told in
    let there = resized_told before.items c.resize.new.self.items (is_ok c.resize.result) c.args.keys (c.args.keys - vec_len before) j p c.resize.ensures.items told in
    subst (λ ps. slice_get ps j ≡ Some (Some p)) c.self.view_is (subst (λ xs. slice_get (map number xs) j ≡ Some (Some p)) (same c) there)
