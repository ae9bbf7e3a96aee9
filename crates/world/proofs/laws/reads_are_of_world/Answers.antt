use Rattle.world.proofs.Steps.{copy_step}
use Rattle.world.proofs.laws.reads_are_of_world.Goals as goal

pub returns : goal.returns
returns c = copy_step
