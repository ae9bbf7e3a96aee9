use Rattle.key_state.proofs.Told.{same_in_world}
use Rattle.key_state.proofs.laws.states_are_told_by_dots.Goals as goal

pub returns : goal.returns
returns c = same_in_world
