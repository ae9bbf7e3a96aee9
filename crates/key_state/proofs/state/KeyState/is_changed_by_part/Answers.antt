use Rattle.std.proofs.Common.{sym, ap, subst, ◌∙◌}
use Rattle.std.specs.Prelude.{not, ◌&&◌}
use Rattle.std.specs.List.{list_any}
use Rattle.dvv.specs.Clock.{IsClock, covers}
use Rattle.key_state.specs.Parts.{names}
use Rattle.key_state.proofs.Same.{within_told, within_clocks}
use Rattle.key_state.proofs.Parts.{whole_state, further_changes, drops_change}
use Rattle.key_state.proofs.state.KeyState.is_changed_by_part.Goals as goal

pub returns-then-not-le-clause-state : goal.returns-then-not-le-clause-state
returns-then-not-le-clause-state c = whole_state c.args.part.now c.args.self.now c.siblings-siblings.ensures.part

pub returns-else-not-le-clause-state : goal.returns-else-not-le-clause-state
returns-else-not-le-clause-state c = whole_state c.args.part.now c.args.self.now c.siblings-siblings.ensures.part

pub returns-then-not-le-clause-changed : goal.returns-then-not-le-clause-changed
returns-then-not-le-clause-changed c =
    let told = within_told c.clock.result.now c.clock-2.result.now c.le.result (subst IsClock (sym c.clock.ensures) c.siblings-siblings.ensures.part.clock) c.le.ensures ∙ within_clocks c.clock.ensures c.clock-2.ensures in
    ap not c.if-not-le.true ∙ further_changes c.args.self.now c.args.part.now c.le.result told c.if-not-le.true

pub returns-else-not-le-clause-changed : goal.returns-else-not-le-clause-changed
returns-else-not-le-clause-changed c =
    let told = within_told c.clock.result.now c.clock-2.result.now c.le.result (subst IsClock (sym c.clock.ensures) c.siblings-siblings.ensures.part.clock) c.le.ensures ∙ within_clocks c.clock.ensures c.clock-2.ensures in
    drops_change c.args.self.now c.args.part.now c.le.result c.drops_some.result c.requires told c.if-not-le.false (c.drops_some.ensures ∙ ap (list_any (λ s. covers c.args.part.now.clock s.dot && not (names c.args.part.now s.dot))) c.siblings-own.ensures.all)
