use Rattle.server_one_thread.proofs.together.attend_all.Goals as goal

pub loop-delivery-preserved : goal.loop-delivery-preserved
loop-delivery-preserved g c = λ start plays.
    let mid = c.loop-delivery.invariant start plays in
    c.attend.ensures start (mid.0, c.in_ok-deliver.ensures mid.0 mid.1, mid.2)

pub returns-in_err-deliver : goal.returns-in_err-deliver
returns-in_err-deliver g c = λ start plays.
    let mid = c.loop-delivery.invariant start plays in
    (mid.0, c.in_err-deliver.ensures mid.0 mid.1, mid.2)
