use Rattle.audit_replay.proofs.Rising.{none_falls, first_falls}
use Rattle.audit_replay.proofs.stamps.check_rising.Goals as goal

pub returns-in-Some-clause-err : goal.returns-in-Some-clause-err
returns-in-Some-clause-err c = let logs = c.args.journals.now in first_falls logs c.in-Some.fall c.in-Some.ensures

pub returns-in-None-clause-ok : goal.returns-in-None-clause-ok
returns-in-None-clause-ok c = let logs = c.args.journals.now in none_falls logs c.in-None.ensures
