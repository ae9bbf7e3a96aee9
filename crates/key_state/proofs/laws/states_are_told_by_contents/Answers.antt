use Rattle.key_state.proofs.Same.{same_state}
use Rattle.key_state.proofs.laws.states_are_told_by_contents.Goals as goal

pub returns : goal.returns
returns c = same_state
