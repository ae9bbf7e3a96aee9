use Rattle.std.specs.BTreeMap.{get}
use Rattle.key_state.specs.State.{empty}
use Rattle.journal.specs.Keys.{key_cmp}
use Rattle.kept_fold.specs.declared.candidates.Merging.TheVariants.{Merged}
use Rattle.kept_fold.proofs.Longs.{record_more}
use Rattle.kept_fold.proofs.candidates.add_long.Goals as goal

pub loop-record-preserved : goal.loop-record-preserved
loop-record-preserved c = λ key.
    record_more c.args.least c.args.records.now c.loop-record.record-index c.record-item.result key (Merged empty) (get key_cmp c.args.merges.now key) (get key_cmp c.loop-record.merges key) (get key_cmp c.add_one.new.merges key)
    c.loop-record-test.true c.record-item.is (c.loop-record.invariant key) (c.in_ok-add_one.ensures key)
