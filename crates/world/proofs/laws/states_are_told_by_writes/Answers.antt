use Rattle.world.proofs.Equal.{one_state}
use Rattle.world.proofs.laws.states_are_told_by_writes.Goals as goal

pub returns : goal.returns
returns c = one_state
