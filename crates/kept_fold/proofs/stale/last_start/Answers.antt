use Rattle.kept_fold.specs.Stale.{start_of}
use Rattle.kept_fold.proofs.Lasts.{greatest_more}
use Rattle.kept_fold.proofs.stale.last_start.Goals as goal

pub loop-entry-preserved : goal.loop-entry-preserved
loop-entry-preserved c = greatest_more start_of c.args.entries.now c.loop-entry.entry-index _ c.loop-entry.last c.max-last.result c.loop-entry-test.true c.loop-entry.invariant c.max-last.ensures
