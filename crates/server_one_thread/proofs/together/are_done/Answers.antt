use Rattle.std.proofs.Common.{arith, refl}
use Rattle.server_one_thread.proofs.CameLemmas.{done_more, some_inside}
use Rattle.server_one_thread.proofs.together.are_done.Goals as goal

pub loop-number-preserved : goal.loop-number-preserved
loop-number-preserved c =
    done_more c.loop-number.number c.args.clients.now c.args.deliveries.now c.index-clients-number.result c.in_ok-came.came c.loop-number-test.true c.index-clients-number.is c.in_ok-came.ensures (c.if-not-is_done.ensures.all refl)
    (c.if-not-is_done.ensures.done refl) c.loop-number.invariant

pub returns : goal.returns
returns c = λ yes n client at. c.loop-number.invariant n client (let inside = some_inside c.args.clients.now n client at in omega (arith, inside, c.loop-number-test.false)) at
