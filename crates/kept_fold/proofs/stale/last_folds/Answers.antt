use Rattle.std.proofs.Common.{◌≡◌, List, subst}
use Rattle.std.specs.Prelude.{max}
use Rattle.record_codec.specs.declared.record.Record.{Record}
use Rattle.kept_fold.specs.Stale.{last_fold, number_at}
use Rattle.kept_fold.proofs.Lasts.{file_added}
use Rattle.kept_fold.proofs.stale.last_folds.Goals as goal

pub loop-file-preserved : goal.loop-file-preserved
loop-file-preserved c = λ key.
    file_added c.args.files.now c.loop-file.file-index c.file-item.result key (number_at c.loop-file.last key) (number_at c.add_folds.new.last key) c.loop-file-test.true c.file-item.is (c.loop-file.invariant key)
    (subst (λ (l : List Record). number_at c.add_folds.new.last key ≡ max (number_at c.loop-file.last key) (last_fold l key)) c.deref.ensures.value (c.in_ok-add_folds.ensures key))
