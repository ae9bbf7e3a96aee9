use Rattle.server_sockets.proofs.worker.Worker.relieve.Goals as goal

pub returns-then-is_full_for_long : goal.returns-then-is_full_for_long
returns-then-is_full_for_long c = λ copies log s shown all. let done = c.relieve.ensures.stands copies log s shown all in (done.0, done.1, done.2)
