use Rattle.std.proofs.Common.{Ok, Err, ap}
use Rattle.hook_abi.specs.Verdicts.{meaning_of}
use Rattle.quorum.proofs.hooking.Hooking.judge_beside.Goals as goal

pub returns-in-Ok-clause-judges : goal.returns-in-Ok-clause-judges
returns-in-Ok-clause-judges g c = (Ok (meaning_of c.in-Ok.verdict), c.in-Ok.ensures.decision, c.judged.ensures)

pub returns-in-Err-clause-judges : goal.returns-in-Err-clause-judges
returns-in-Err-clause-judges g c = (Err c.in-Err.fault, c.in-Err.ensures.decision, ap (λ e. Err e) c.from.ensures)
