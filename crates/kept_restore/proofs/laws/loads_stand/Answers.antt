use Rattle.kept_restore.proofs.Standing.{begin_with}
use Rattle.kept_restore.proofs.laws.loads_stand.Goals as goal

pub returns : goal.returns
returns c = begin_with
