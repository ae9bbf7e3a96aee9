use Rattle.std.proofs.Common.{refl}
use Rattle.journal.specs.Answers.{copied}
use Rattle.audit_replay.proofs.again.read_again.Goals as goal

pub returns-clause-answer : goal.returns-clause-answer
returns-clause-answer c = let own = c.in_ok-note_read.ensures.state in (copied own.0, own.1, (own.0, refl))
