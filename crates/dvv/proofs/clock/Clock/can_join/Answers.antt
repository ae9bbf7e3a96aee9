use Rattle.std.proofs.Common.{◌≡◌, ◌∙◌, ◌≤◌, ℕ, sym, subst}
use Rattle.dvv.specs.Clock.{vnodes_together}
use Rattle.dvv.proofs.Clocks.{same_count}
use Rattle.dvv.proofs.clock.Clock.can_join.Goals as goal

pub returns : goal.returns
returns c =
    let e : vnodes_together c.deref.result.now c.deref-2.result.now ≡ vnodes_together c.args.self.now c.args.other.now = same_count (c.deref.ensures ∙ c.self.view_is) (c.deref-2.ensures ∙ c.other.view_is) in
    (λ t. subst (λ (n : ℕ). n ≤ 1024) e (c.fits_together.ensures.0 t), λ h. c.fits_together.ensures.1 (subst (λ (n : ℕ). n ≤ 1024) (sym e) h))
