use Rattle.std.proofs.Common.{◌≡◌, ◌∙◌, ◌<◌, ℕ, sym, subst}
use Rattle.dvv.specs.Clock.{vnodes_together}
use Rattle.dvv.proofs.Clocks.{same_count}
use Rattle.dvv.proofs.clock.Clock.join.Goals as goal

pub returns-in-Ok-clause-full : goal.returns-in-Ok-clause-full
returns-in-Ok-clause-full c =
    let e : vnodes_together c.deref.result.now c.deref-2.result.now ≡ vnodes_together c.args.self.now c.args.other.now = same_count (c.deref.ensures ∙ c.self.view_is) (c.deref-2.ensures ∙ c.other.view_is) in
    (λ h. cc, λ h. let k = c.in-Ok.ensures.full.1 (subst (λ (n : ℕ). 1024 < n) (sym e) h) in cc)

pub returns-in-Err-clause-full : goal.returns-in-Err-clause-full
returns-in-Err-clause-full c =
    let e : vnodes_together c.deref.result.now c.deref-2.result.now ≡ vnodes_together c.args.self.now c.args.other.now = same_count (c.deref.ensures ∙ c.self.view_is) (c.deref-2.ensures ∙ c.other.view_is) in
    (λ h. subst (λ (n : ℕ). 1024 < n) e (c.in-Err.ensures.full.0 cc), λ h. let k = c.in-Err.ensures.full.1 (subst (λ (n : ℕ). 1024 < n) (sym e) h) in cc)
