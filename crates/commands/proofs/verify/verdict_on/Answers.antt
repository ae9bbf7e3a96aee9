use Rattle.std.proofs.Common.{rules}
use Rattle.commands.specs.Verdict.{IsVerdict}
use Rattle.commands.proofs.verify.verdict_on.Goals as goal

pub returns-in-Ok : goal.returns-in-Ok
unfolding IsVerdict
returns-in-Ok g c = (c.in-Ok.verified, c.in-Ok.ensures.admitted, search rules)

pub returns-in-Err : goal.returns-in-Err
unfolding IsVerdict
returns-in-Err g c = c.in-Err.ensures.refused
