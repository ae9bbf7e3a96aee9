use Rattle.world.proofs.Steps.{put_step}
use Rattle.world.proofs.laws.puts_are_of_world.Goals as goal

pub returns : goal.returns
returns c = put_step
