use Rattle.server_sockets.proofs.worker.Worker.sweep.Goals as goal

pub loop-preserved : goal.loop-preserved
loop-preserved c = λ copies log s shown all.
    let mid = c.loop.invariant copies log s shown all in
    let done = c.give_up.ensures.stands copies log mid.0 mid.1 mid.2 in (done.0, done.1, done.2)
