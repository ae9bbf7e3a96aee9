use Rattle.std.proofs.Common.{List, subst}
use Rattle.std.specs.BTreeMap.{get}
use Rattle.journal.specs.Keys.{key_cmp}
use Rattle.record_codec.specs.declared.record.Record.{Record}
use Rattle.kept_fold.specs.Merging.{GoesOn, states_of}
use Rattle.kept_fold.proofs.Steps.{goes_on_file}
use Rattle.kept_fold.proofs.candidates.merge_files.Goals as goal

pub loop-file-preserved : goal.loop-file-preserved
loop-file-preserved c = λ key.
    goes_on_file c.args.files.now c.loop-file.file-index c.file-item.result key (get key_cmp c.args.merges.now key) (get key_cmp c.loop-file.merges key) (get key_cmp c.merge_records.new.merges key) c.loop-file-test.true c.file-item.is
    (c.loop-file.invariant key)
    (subst (λ (l : List Record). GoesOn (states_of l key) (get key_cmp c.loop-file.merges key) (get key_cmp c.merge_records.new.merges key)) c.deref.ensures.value (c.in_ok-merge_records.ensures key))
