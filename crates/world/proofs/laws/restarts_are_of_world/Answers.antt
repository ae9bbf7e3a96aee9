use Rattle.world.proofs.Steps.{restart_step}
use Rattle.world.proofs.laws.restarts_are_of_world.Goals as goal

pub returns : goal.returns
returns c = restart_step
