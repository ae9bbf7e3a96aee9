use Rattle.std.proofs.Common.{arith}
use Rattle.http_connections.specs.Full.{nobody, one_more}
use Rattle.http_connections.proofs.hall.Hall.relieve.Goals as goal

pub loop-self-init : goal.loop-self-init
loop-self-init g c = record { stands = λ copies log old shown all. (old, shown, all); sheds = nobody }

pub loop-self-preserved : goal.loop-self-preserved
loop-self-preserved g c =
    let closed = c.give_up_fullest.ensures.closed in record {
      stands = λ copies log old shown all.
          let mid = c.loop-self.invariant.stands copies log old shown all in
          c.give_up_fullest.ensures.stands copies log mid.0 mid.1 mid.2;
      sheds =
          one_more c.loop-self.self c.give_up_fullest.new.self closed.0 c.loop-self.invariant.sheds (omega (arith, c.loop-self-test.true, c.unsent.ensures.value))
          closed.1 closed.2 closed.3;
    }
