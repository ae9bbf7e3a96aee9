use Rattle.std.proofs.Common.{[], refl}
use Rattle.kept_restore.proofs.Fronts.{begins}
use Rattle.kept_restore.proofs.laws.loads_begin_journals.Goals as goal

pub returns : goal.returns
returns c = λ journal id records marks len fits. begins journal id 0 records marks [] journal len refl refl fits
