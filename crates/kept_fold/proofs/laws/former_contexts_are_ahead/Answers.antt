use Rattle.kept_fold.proofs.Standing.{former_ahead}
use Rattle.kept_fold.proofs.laws.former_contexts_are_ahead.Goals as goal

pub returns : goal.returns
returns c = former_ahead
