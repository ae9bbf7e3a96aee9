use Rattle.std.specs.BTreeMap.{get}
use Rattle.journal.specs.Keys.{key_cmp}
use Rattle.kept_fold.proofs.Steps.{goes_on_record}
use Rattle.kept_fold.proofs.candidates.merge_records.Goals as goal

pub loop-record-preserved : goal.loop-record-preserved
loop-record-preserved c = λ key.
    goes_on_record c.args.records.now c.loop-record.record-index c.record-item.result key (get key_cmp c.args.merges.now key) (get key_cmp c.loop-record.merges key) (get key_cmp c.merge_record.new.merges key)
    c.loop-record-test.true c.record-item.is (c.loop-record.invariant key) (c.in_ok-merge_record.ensures key)
