use Rattle.std.proofs.Common.{sym, subst, ◌∙◌}
use Rattle.dvv.specs.Clock.{IsClock}
use Rattle.key_state.proofs.Same.{within_told, within_clocks}
use Rattle.key_state.proofs.state.KeyState.knows_all_of.Goals as goal

pub returns : goal.returns
returns c = within_told c.clock.result.now c.clock-2.result.now c.le.result (subst IsClock (sym c.clock.ensures) c.siblings-siblings.ensures.state.clock) c.le.ensures ∙ within_clocks c.clock.ensures c.clock-2.ensures
