use Rattle.std.proofs.Common.{rules}
use Rattle.commands.specs.Run.{ComesTo}
use Rattle.commands.proofs.run.outcome_of.Goals as goal

pub returns-in-Err : goal.returns-in-Err
unfolding ComesTo
returns-in-Err g c = c.in-Err.ensures.refused

pub returns-then-input-image : goal.returns-then-input-image
unfolding ComesTo
returns-then-input-image g c = (c.in-Ok.verified, c.in-Ok.ensures.admitted, search rules)

pub returns-in-Ok-ended : goal.returns-in-Ok-ended
unfolding ComesTo
returns-in-Ok-ended g c = (c.in-Ok.verified, c.in-Ok-ended.ensures.0, c.in-Ok.ensures.admitted, search rules, search rules, search rules)

pub returns : goal.returns
unfolding ComesTo
returns g c = (c.in-Ok.verified, c.in-Ok.ensures.admitted, search rules)
