use Rattle.kept_file.proofs.Made.{AreReading}
use Rattle.kept_file.proofs.snapshot.write_keys.Given as goal

-- those before were read and written
abbrev pub invariant-loop-key : goal.invariant-loop-key
invariant-loop-key g l = AreReading g.P.Peers.happens l.fn.peers l.peers l.index l.keys l.key-index (g.W.Write.contents l.fn.out) (g.W.Write.contents l.out)
