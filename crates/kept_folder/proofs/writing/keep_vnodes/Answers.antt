use Rattle.kept_folder.proofs.Storing.{both_came, one_file_more}
use Rattle.kept_folder.proofs.writing.keep_vnodes.Goals as goal

pub loop-index-preserved : goal.loop-index-preserved
loop-index-preserved g c = (
  both_came c.with_one_more-all.result c.loop-index.all c.keep_whole-came.result _ _ _ c.with_one_more-all.ensures.both c.loop-index.invariant.0 c.keep_whole-came.ensures.put
      (λ files count file. one_file_more g.F.Folder.does c.args.folder.now c.loop-index.folder c.keep_whole-came.new.folder c.args.vnodes.now c.loop-index.index c.index-vnodes-index.result file.0 count c.loop-index-test.true c.index-vnodes-index.is files file.1 file.2),
  c.with_one_more-all.ensures.why c.loop-index.invariant.1 c.keep_whole-came.ensures.why,
)
