use Rattle.std.specs.BTreeMap.{get}
use Rattle.journal.specs.Keys.{key_cmp}
use Rattle.record_codec.specs.declared.record.Record.{Record}
use Rattle.kept_fold.specs.Folds.{rewritten, to_fold}
use Rattle.kept_fold.proofs.Mapped.{mapped_more}
use Rattle.kept_fold.proofs.fold.rewrite_records.Goals as goal

pub loop-one-preserved : goal.loop-one-preserved
loop-one-preserved c =
    mapped_more (λ (r : Record). rewritten c.args.id (to_fold (get key_cmp c.args.merges.now r.key)) r) c.args.records.now c.loop-one.records c.loop-one.one-index c.one-item.result c.rewrite.new.one c.loop-one-test.true c.one-item.is
    c.loop-one.invariant c.in_ok-rewrite.ensures
