use Rattle.world.proofs.Merges.{carried}
use Rattle.world.proofs.record_laws.records_carry_all.Goals as goal

pub returns : goal.returns
returns c = carried
