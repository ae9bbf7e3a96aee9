use Rattle.kept_file.proofs.Held.{writing_more}
use Rattle.kept_file.proofs.whole.write_held.Goals as goal

pub loop-copied-preserved : goal.loop-copied-preserved
loop-copied-preserved g c = writing_more c.args.id c.args.at c.args.held.now c.loop-copied.copied-index c.copied-item.result (g.W.Write.contents c.args.out.now) (g.W.Write.contents c.loop-copied.out) (g.W.Write.contents c.write_record.new.out)
    c.loop-copied-test.true c.copied-item.is c.loop-copied.invariant c.in_ok-write_record.ensures.written
