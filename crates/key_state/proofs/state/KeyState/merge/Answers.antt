use Rattle.std.proofs.Common.{refl, sym, arith}
use Rattle.key_state.proofs.Same.{unchanged_merges, unchanged_fits, equal_dots, merged_state_differs}
use Rattle.key_state.proofs.state.KeyState.merge.Goals as goal

pub returns-then-not-is_changed_by-clause-ok : goal.returns-then-not-is_changed_by-clause-ok
returns-then-not-is_changed_by-clause-ok c = unchanged_merges c.args.self.now c.args.other.now c.siblings-others.ensures.state (sym c.if-not-is_changed_by.ensures)

pub returns-then-not-is_changed_by-clause-full : goal.returns-then-not-is_changed_by-clause-full
returns-then-not-is_changed_by-clause-full c = (λ e. absurd (cc), λ h. absurd (omega (arith, h, unchanged_fits c.args.self.now c.args.other.now c.siblings-own.ensures.state (sym c.if-not-is_changed_by.ensures))))

-- it changed
pub returns-clause-dots : goal.returns-clause-dots
returns-clause-dots c = (λ t same. merged_state_differs c.args.self.now c.args.other.now c.in_ok-self.field-0 c.siblings-others.ensures.state (sym c.if-not-is_changed_by.ensures) c.in_ok-self.ensures.merges same, λ h. refl)

pub returns-clause-changed : goal.returns-clause-changed
returns-clause-changed c = (λ t is. (returns-clause-dots c).0 t (equal_dots _ _ (sym is)), λ h. refl)
