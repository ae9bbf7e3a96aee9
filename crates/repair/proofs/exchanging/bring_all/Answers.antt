use Rattle.std.proofs.Common.{arith}
use Rattle.repair.proofs.ExchangeLemmas.{bringing_more, at_most_one}
use Rattle.repair.proofs.exchanging.bring_all.Goals as goal

pub loop-key-preserved : goal.loop-key-preserved
loop-key-preserved g c =
    let s = c.bring-outcome.ensures in
    let taken = c.note.ensures.taken in
    let whole = c.note.ensures.whole in
    record {
      brought = bringing_more g.P.Peers.happens c.args.peers.now c.loop-key.peers c.bring-outcome.new.peers c.args.from c.args.to c.args.keys.now c.loop-key.key-index c.loop-key.exchanged c.note.new.self c.key-item.result s.0 c.bring-outcome.result c.loop-key-test.true c.key-item.is c.loop-key.invariant.brought s.1 s.2 s.3 s.4 taken whole;
      few = let f = c.loop-key.invariant.few in let one = at_most_one c.bring-outcome.result.is_taken in omega (arith, taken, f, one);
      few_whole = let f = c.loop-key.invariant.few_whole in let one = at_most_one c.bring-outcome.result.is_whole_at_once in omega (arith, whole, f, one);
    }
