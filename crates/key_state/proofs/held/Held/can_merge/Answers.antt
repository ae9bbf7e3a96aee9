use Rattle.std.proofs.Common.{◌≡◌, ◌≤◌, ℕ, sym, ap, subst}
use Rattle.dvv.specs.Clock.{vnodes_together}
use Rattle.key_state.proofs.held.Held.can_merge.Goals as goal

pub returns : goal.returns
returns c =
    let e : vnodes_together c.args.self.now.clock c.clock.result.now ≡ vnodes_together c.args.self.now.clock c.args.other.now.clock = ap (vnodes_together c.args.self.now.clock) c.clock.ensures in
    (λ t. subst (λ (n : ℕ). n ≤ 1024) e (c.can_join.ensures.0 t), λ h. c.can_join.ensures.1 (subst (λ (n : ℕ). n ≤ 1024) (sym e) h))
