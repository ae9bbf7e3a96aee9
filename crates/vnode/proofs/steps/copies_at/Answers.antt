use Rattle.std.proofs.Common.{◌∙◌}
use Rattle.vnode.proofs.steps.copies_at.Goals as goal

pub returns-in_ok-of-in-Some-clause-key : goal.returns-in_ok-of-in-Some-clause-key
returns-in_ok-of-in-Some-clause-key c = c.in_ok-copy-in-Some.ensures ∙ c.in-Some.ensures.key
