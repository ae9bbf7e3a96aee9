use Rattle.script_events.proofs.reading.Reader.read_resolve.Goals as goal

pub returns-in_ok-push_run-in-Ok-clause-runnable : goal.returns-in_ok-push_run-in-Ok-clause-runnable
returns-in_ok-push_run-in-Ok-clause-runnable g c used runnable = c.in_ok-push_run-in-Ok.ensures.runnable used _ c.in-Ok.ensures.runs runnable
