use Rattle.std.proofs.Common.{◌≡◌, ℕ, ◌⊎◌, inl, inr, subst}
use Rattle.std.specs.Prelude.{Some, map, slice_get}
use Rattle.vnode.specs.RingPlaces.{number}
use Rattle.vnode.proofs.Rings.{set_told}
use Rattle.vnode.proofs.ring_places.RingPlaces.learn.Goals as goal
use Rattle.vnode.proofs.ring_places.RingPlaces.learn.Goals.{After-self-1, else-len-i-via-then-len-i+else-is_err, else-len-i-via-else-len-i}

-- what was told before it is written was told at the beginning
before : (c : goal.After-self-1) (j p : ℕ) → slice_get c.else-len-i.self j ≡ Some (Some p) → slice_get c.args.self.now j ≡ Some (Some p)
before c j p told = elim c.else-len-i.branch [
  | else-len-i-via-then-len-i+else-is_err w ↦ w.reach.ensures.told j p (subst (λ ps. slice_get ps j ≡ Some (Some p)) w.self-is told)
  | else-len-i-via-else-len-i w ↦ subst (λ ps. slice_get ps j ≡ Some (Some p)) w.self-is told
]

pub returns-clause-told : goal.returns-clause-told
returns-clause-told c = λ j p told. by_set j p (set_told c.self-2.inside.told.items c.args.i c.of.result c.args.place j p c.of.ensures told)
  where
    by_set : (j p : ℕ) → (slice_get (map number c.self-2.inside.told.items) j ≡ Some (Some p)) ⊎ ((j ≡ c.args.i) × (p ≡ c.args.place))
        → (slice_get c.args.self.now j ≡ Some (Some p)) ⊎ ((j ≡ c.args.i) × (p ≡ c.args.place))
    by_set j p (inl there) = inl (before c j p (subst (λ ps. slice_get ps j ≡ Some (Some p)) c.self-2.view_is there))
    by_set j p (inr at) = inr at
