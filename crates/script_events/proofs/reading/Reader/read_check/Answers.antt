use Rattle.script_events.proofs.reading.Reader.read_check.Goals as goal

pub returns-in_ok-push_check-in-Ok-clause-runnable : goal.returns-in_ok-push_check-in-Ok-clause-runnable
returns-in_ok-push_check-in-Ok-clause-runnable g c used runnable = c.in_ok-push_check-in-Ok.ensures.runnable used _ runnable
