use Rattle.std.proofs.Common.{◌∙◌}
use Rattle.log_desk.proofs.Ends.{ended}
use Rattle.log_desk.proofs.pen.Pen.end.Goals as goal

pub returns-clause-ended : goal.returns-clause-ended
returns-clause-ended g c =
    ended c.force.result _ _ _ _ (c.force.ensures.written ∙ c.in_ok-write_batch.ensures.written) c.in-Some.ensures.ended
