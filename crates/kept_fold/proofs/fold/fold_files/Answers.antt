use Rattle.std.proofs.Common.{List, length, ap, subst, ◌∙◌}
use Rattle.std.specs.BTreeMap.{get}
use Rattle.std.proofs.lemmas.Result.{IfOk-weaker}
use Rattle.key_state.specs.declared.content.Key.{Key}
use Rattle.journal.specs.Keys.{key_cmp}
use Rattle.kept_file.specs.declared.file.KeptFile.{KeptFile}
use Rattle.kept_fold.specs.Merging.{GoesOn, all_records, states_of}
use Rattle.kept_fold.specs.Folds.{share}
use Rattle.kept_fold.specs.Stale.{fold_id}
use Rattle.kept_fold.proofs.Found.{IsJudged, are_rewritten, began_of}
use Rattle.kept_fold.proofs.fold.fold_files.Goals as goal

-- what each key began with, and what its merge has come to
judged : (c : goal.After-drop-merges-2) (key : Key) → IsJudged c.in_ok-fresh.fresh.items key (get key_cmp c.in_ok-merges.merges key) (get key_cmp c.merge_files.new.merges key)
judged c key = record {
  began = began_of c.share_of.result (share (length c.in_ok-fresh.fresh.items)) c.deref.result.now c.in_ok-fresh.fresh.items key (get key_cmp c.in_ok-merges.merges key)
      (c.share_of.ensures ∙ ap (λ (l : List KeptFile). share (length l)) c.deref-2.ensures.value) c.deref.ensures.value (c.in_ok-merges.ensures key);
  went = subst (λ (l : List KeptFile). GoesOn (states_of (all_records l) key) (get key_cmp c.in_ok-merges.merges key) (get key_cmp c.merge_files.new.merges key)) c.deref-3.ensures.value (c.in_ok-merge_files.ensures key);
}

pub returns : goal.returns
returns c =
    IfOk-weaker c.rewrite_files.result _ _
    (λ folded all. record {
      fresh = c.in_ok-fresh.fresh.items;
      left = c.in_ok-fresh.ensures;
      rewritten = are_rewritten c.in_ok-fresh.fresh.items c.in_ok-merges.merges c.merge_files.new.merges (judged c) (fold_id c.args.number) c.in_ok-fresh.fresh.items folded.items all;
    })
    c.rewrite_files.ensures
