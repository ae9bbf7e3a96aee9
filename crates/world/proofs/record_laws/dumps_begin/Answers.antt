use Rattle.world.proofs.Dumping.{dump_begins}
use Rattle.world.proofs.record_laws.dumps_begin.Goals as goal

pub returns : goal.returns
returns c = dump_begins
