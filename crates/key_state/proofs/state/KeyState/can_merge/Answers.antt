use Rattle.std.proofs.Common.{◌≡◌, ◌≤◌, ℕ, sym, subst}
use Rattle.dvv.specs.Clock.{vnodes_together}
use Rattle.key_state.proofs.Same.{counted}
use Rattle.key_state.proofs.state.KeyState.can_merge.Goals as goal

pub returns : goal.returns
returns c =
    let e : vnodes_together c.clock.result.now c.clock-2.result.now ≡ vnodes_together c.args.self.now.clock c.args.other.now.clock = counted c.clock.ensures c.clock-2.ensures in
    (λ t. subst (λ (n : ℕ). n ≤ 1024) e (c.can_join.ensures.0 t), λ h. c.can_join.ensures.1 (subst (λ (n : ℕ). n ≤ 1024) (sym e) h))
