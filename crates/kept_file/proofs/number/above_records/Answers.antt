use Rattle.std.proofs.Common.{◌∙◌}
use Rattle.kept_file.proofs.Above.{record_more}
use Rattle.kept_file.proofs.number.above_records.Goals as goal

pub loop-record-preserved : goal.loop-record-preserved
loop-record-preserved c = record {
  exact = record_more c.args.least c.args.records.now c.loop-record.record-index c.record-item.result c.loop-record.next c.above_id.result c.above_entries-next.result c.entries.result.now c.loop-record-test.true c.record-item.is c.loop-record.invariant.exact
      c.above_id.ensures.exact c.above_entries-next.ensures.exact (c.entries.ensures.all ∙ c.clock.ensures);
}
