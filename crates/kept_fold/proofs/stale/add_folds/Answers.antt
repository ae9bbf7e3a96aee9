use Rattle.kept_fold.specs.Stale.{number_at}
use Rattle.kept_fold.proofs.Lasts.{records_added}
use Rattle.kept_fold.proofs.stale.add_folds.Goals as goal

pub loop-record-preserved : goal.loop-record-preserved
loop-record-preserved c = λ key.
    records_added c.args.records.now c.loop-record.record-index c.record-item.result key (number_at c.args.last.now key) (number_at c.loop-record.last key) (number_at c.add_fold.new.last key) c.loop-record-test.true c.record-item.is
    (c.loop-record.invariant key) (c.in_ok-add_fold.ensures key)
