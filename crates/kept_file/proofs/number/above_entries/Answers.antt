use Rattle.kept_file.proofs.Above.{entry_more}
use Rattle.kept_file.proofs.number.above_entries.Goals as goal

pub loop-entry-preserved : goal.loop-entry-preserved
loop-entry-preserved c = record {
  exact = entry_more c.args.least c.args.entries.now c.loop-entry.entry-index _ c.loop-entry.next c.above_id-next.result c.loop-entry-test.true c.loop-entry.invariant.exact c.above_id-next.ensures.exact;
}
