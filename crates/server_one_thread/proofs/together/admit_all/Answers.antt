use Rattle.server_one_thread.proofs.together.admit_all.Goals as goal

pub loop-preserved : goal.loop-preserved
loop-preserved c = λ copies log old shown all.
    let mid = c.loop.invariant copies log old shown all in
    let seated = c.admit.ensures.4 copies log mid.0 mid.1 mid.2 in
    (seated.0, seated.1, seated.2)
