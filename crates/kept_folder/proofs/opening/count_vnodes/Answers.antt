use Rattle.std.proofs.Common.{◌∙◌, ap}
use Rattle.std.specs.Prelude.{max}
use Rattle.kept_folder.proofs.Reading.{vnodes_more}
use Rattle.kept_folder.proofs.opening.count_vnodes.Goals as goal

pub loop-file-preserved : goal.loop-file-preserved
loop-file-preserved c = vnodes_more c.args.files.now c.loop-file.file-index c.file-item.result c.loop-file.count c.max-count.result c.loop-file-test.true c.file-item.is c.loop-file.invariant
    (c.max-count.ensures ∙ ap (max c.loop-file.count) c.count_in.ensures)
