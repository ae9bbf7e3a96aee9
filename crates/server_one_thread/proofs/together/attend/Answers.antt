use Rattle.server_one_thread.proofs.together.attend.Goals as goal

pub loop-preserved : goal.loop-preserved
loop-preserved g c = λ start plays.
    let mid = c.loop.invariant start plays in
    let next = c.attend.ensures.stands start mid.0 mid.1 mid.2 in
    (next.0, next.1, next.2)

pub returns-then-not-is_called : goal.returns-then-not-is_called
returns-then-not-is_called g c = λ start plays.
    let mid = c.loop.invariant start plays in
    let next = c.attend.ensures.stands start mid.0 mid.1 mid.2 in
    (next.0, next.1, next.2)
