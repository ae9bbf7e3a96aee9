use Rattle.std.proofs.Common.{arith}
use Rattle.http_connections.proofs.hall.Hall.give_up_fullest.Goals as goal

pub returns-in-Some-clause-stands : goal.returns-in-Some-clause-stands
returns-in-Some-clause-stands g c = λ copies log old shown all.
    let done = c.give_up.ensures.stands copies log old shown all in (done.0, done.1, done.2)

pub returns-in-Some-clause-closed : goal.returns-in-Some-clause-closed
returns-in-Some-clause-closed g c = (c.in-Some.number, c.in-Some.ensures.most.0, c.give_up.ensures.gone, c.give_up.ensures.others)

pub returns-in-Some-clause-fewer : goal.returns-in-Some-clause-fewer
returns-in-Some-clause-fewer g c = omega (arith, c.give_up.ensures.less, c.in-Some.ensures.most.1)
