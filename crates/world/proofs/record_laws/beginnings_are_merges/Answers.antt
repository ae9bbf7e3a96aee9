use Rattle.world.proofs.Merges.{begun_so}
use Rattle.world.proofs.record_laws.beginnings_are_merges.Goals as goal

pub returns : goal.returns
returns c = begun_so
