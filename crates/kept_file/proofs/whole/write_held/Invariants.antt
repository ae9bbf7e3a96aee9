use Rattle.kept_file.proofs.Held.{AreWriting}
use Rattle.kept_file.proofs.whole.write_held.Given as goal

-- those before were written
abbrev pub invariant-loop-copied : goal.invariant-loop-copied
invariant-loop-copied g l = AreWriting l.id l.at l.held l.copied-index (g.W.Write.contents l.fn.out) (g.W.Write.contents l.out)
