use Rattle.key_state.proofs.Told.{same_in_lists}
use Rattle.key_state.proofs.laws.states_are_told_by_dots_and_clocks.Goals as goal

pub returns : goal.returns
returns c = same_in_lists
