use Rattle.kept_file.proofs.Asked.{asked_reading, asked_then}
use Rattle.kept_file.proofs.Made.{reading_none, reading_more}
use Rattle.kept_file.proofs.snapshot.write_keys.Goals as goal

pub loop-key-init : goal.loop-key-init
loop-key-init g c = reading_none g.P.Peers.happens c.args.peers.now c.args.index c.args.keys.now (g.W.Write.contents c.args.out.now)

pub loop-key-preserved : goal.loop-key-preserved
loop-key-preserved g c = reading_more g.P.Peers.happens c.args.peers.now c.loop-key.peers c.write_key.new.peers c.args.index c.args.keys.now c.loop-key.key-index c.key-item.result
    (g.W.Write.contents c.args.out.now) (g.W.Write.contents c.loop-key.out) (g.W.Write.contents c.write_key.new.out) c.loop-key-test.true c.key-item.is c.loop-key.invariant c.in_ok-write_key.ensures.read

pub returns-then-not-goes_on-clause-asked : goal.returns-then-not-goes_on-clause-asked
returns-then-not-goes_on-clause-asked g c = asked_reading g.P.Peers.happens c.args.peers.now c.loop-key.peers c.args.index c.args.keys.now c.loop-key.key-index (g.W.Write.contents c.args.out.now) (g.W.Write.contents c.loop-key.out) c.loop-key.invariant

pub returns-in_err-write_key-clause-asked : goal.returns-in_err-write_key-clause-asked
returns-in_err-write_key-clause-asked g c = asked_then g.P.Peers.happens c.args.peers.now c.loop-key.peers c.write_key.new.peers c.args.index
    (asked_reading g.P.Peers.happens c.args.peers.now c.loop-key.peers c.args.index c.args.keys.now c.loop-key.key-index (g.W.Write.contents c.args.out.now) (g.W.Write.contents c.loop-key.out) c.loop-key.invariant) c.write_key.ensures.asked

pub returns-clause-asked : goal.returns-clause-asked
returns-clause-asked g c = asked_reading g.P.Peers.happens c.args.peers.now c.loop-key.peers c.args.index c.args.keys.now c.loop-key.key-index (g.W.Write.contents c.args.out.now) (g.W.Write.contents c.loop-key.out) c.loop-key.invariant
