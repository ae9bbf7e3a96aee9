use Rattle.world.proofs.Equal.{equal_states}
use Rattle.world.proofs.laws.states_are_told_by_dots_and_clocks.Goals as goal

pub returns : goal.returns
returns c = equal_states
