use Rattle.world.proofs.Steps.{opened_represents}
use Rattle.world.proofs.laws.vnodes_open.Goals as goal

pub returns : goal.returns
returns c = opened_represents
