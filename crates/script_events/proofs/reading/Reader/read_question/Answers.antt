use Rattle.std.proofs.Common.{arith, refl}
use Rattle.script_events.proofs.Growing.{one_more}
use Rattle.script_events.proofs.reading.Reader.read_question.Goals as goal

pub returns-clause-runnable : goal.returns-clause-runnable
returns-clause-runnable c used listed runnable = one_more _ _ _ _ _ _ runnable (c.event_of.ensures.may_come _ _ _ _ (omega arith)) c.in_ok-push.ensures.more refl
