use Rattle.std.proofs.Common.{rules, ◌≡◌, Some, None, sym, subst}
use Rattle.audit_replay.specs.declared.kept.Kept.{Kept}
use Rattle.audit_replay.specs.Kept.{was_before}
use Rattle.audit_replay.proofs.Keeping.{was_same, was_other}
use Rattle.audit_replay.proofs.kept.Kept.was_at.Goals as goal

pub returns-then-eq : goal.returns-then-eq
returns-then-eq c =
    let same : c.in-Was.own ≡ c.args.key.now = search (rules) in
    subst (λ (k : Kept). Some c.in-Was.state ≡ was_before k c.args.key.now) (sym c.in-Was.is) (was_same c.in-Was.own c.args.key.now c.in-Was.state same)

pub returns-else-eq : goal.returns-else-eq
returns-else-eq c =
    let differs : c.in-Was.own ≡ c.args.key.now → ⊥ = search (rules) in
    subst (λ (k : Kept). None ≡ was_before k c.args.key.now) (sym c.in-Was.is) (was_other c.in-Was.own c.args.key.now c.in-Was.state differs)
