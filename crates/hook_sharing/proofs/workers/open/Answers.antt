use Rattle.std.proofs.Common.{◌∙◌, ap}
use Rattle.hook_sharing.proofs.workers.open.Goals as goal

pub returns-clause-none : goal.returns-clause-none
returns-clause-none g c k d below = c.in_ok-readers.ensures.published k d below ∙ ap (λ it. it.published) c.in-Ok.ensures
