use Rattle.audit_replay.proofs.Going.{interleaved}
use Rattle.audit_replay.proofs.rerun.Rerun.new.Goals as goal

pub returns-clause-run : goal.returns-clause-run
returns-clause-run c = let new = c.in_ok-open.field-0 in interleaved new.fronts.items new.vnodes.items new.last new.recent new.answers.items c.in_ok-open.ensures.run
