use Rattle.std.proofs.Common.{◌≡◌, ◌≤◌, ℕ, List, sym, ap, subst}
use Rattle.dvv.specs.declared.Dot.{Dot}
use Rattle.dvv.specs.Clock.{vnodes_together}
use Rattle.key_state.proofs.held.Held.can_join.Goals as goal

pub returns : goal.returns
returns c =
    let e : vnodes_together c.clock.result.now c.args.other.now ≡ vnodes_together c.args.self.now.clock c.args.other.now = ap (λ (l : List Dot). vnodes_together l c.args.other.now) c.clock.ensures in
    (λ t. subst (λ (n : ℕ). n ≤ 1024) e (c.can_join.ensures.0 t), λ h. c.can_join.ensures.1 (subst (λ (n : ℕ). n ≤ 1024) (sym e) h))
