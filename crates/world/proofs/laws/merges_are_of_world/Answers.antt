use Rattle.world.proofs.Steps.{delivery_step}
use Rattle.world.proofs.laws.merges_are_of_world.Goals as goal

pub returns : goal.returns
returns c = delivery_step
