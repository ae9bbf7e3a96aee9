use Rattle.std.proofs.Common.{◌≡◌, List, subst, if◌then◌else◌}
use Rattle.std.specs.Prelude.{Some}
use Rattle.std.specs.BTreeMap.{get}
use Rattle.key_state.specs.State.{empty}
use Rattle.journal.specs.Keys.{key_cmp}
use Rattle.record_codec.specs.declared.record.Record.{Record}
use Rattle.kept_fold.specs.declared.candidates.Merging.TheVariants.{Merged}
use Rattle.kept_fold.specs.Merging.{is_long}
use Rattle.kept_fold.proofs.Longs.{file_more}
use Rattle.kept_fold.proofs.candidates.long_keys.Goals as goal

pub loop-file-preserved : goal.loop-file-preserved
loop-file-preserved c = λ key.
    let e : get key_cmp c.add_long.new.merges key ≡ (if is_long c.args.least c.file-item.result.records.items key then Some (Merged empty) else get key_cmp c.loop-file.merges key) =
    subst (λ (l : List Record). get key_cmp c.add_long.new.merges key ≡ (if is_long c.args.least l key then Some (Merged empty) else get key_cmp c.loop-file.merges key)) c.deref.ensures.value (c.in_ok-add_long.ensures key) in
    file_more c.args.least c.args.files.now c.loop-file.file-index c.file-item.result key (Merged empty) (get key_cmp c.loop-file.merges key) (get key_cmp c.add_long.new.merges key)
    c.loop-file-test.true c.file-item.is (c.loop-file.invariant key) e
