use Rattle.kept_file.proofs.Above.{file_more}
use Rattle.kept_file.proofs.number.above_files.Goals as goal

pub loop-file-preserved : goal.loop-file-preserved
loop-file-preserved c = record {
  exact = file_more c.args.least c.args.files.now c.loop-file.file-index c.file-item.result c.loop-file.next c.above_source.result c.above_records-next.result c.deref.result.now c.loop-file-test.true c.file-item.is c.loop-file.invariant.exact
      c.above_source.ensures.exact c.above_records-next.ensures.exact c.deref.ensures.value;
}
