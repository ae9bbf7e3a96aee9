use Rattle.std.proofs.Common.{◌≡◌, List, ◌∙◌, ap}
use Rattle.std.proofs.lemmas.Result.{IfOk-weaker}
use Rattle.key_state.specs.declared.content.Key.{Key}
use Rattle.kept_file.specs.declared.file.KeptFile.{KeptFile}
use Rattle.kept_fold.specs.Merging.{all_records}
use Rattle.kept_fold.specs.Stale.{last_fold, number_at}
use Rattle.kept_fold.proofs.Lasts.{are_fresh_by}
use Rattle.kept_fold.proofs.stale.without_stale.Goals as goal

pub returns : goal.returns
returns c =
    let each : (key : Key) → number_at c.in_ok-last.last key ≡ last_fold (all_records c.args.files.items) key =
    λ key. c.in_ok-last.ensures key ∙ ap (λ (l : List KeptFile). last_fold (all_records l) key) c.deref.ensures.value in
    IfOk-weaker c.fresh_by.result _ _ (λ fresh all. are_fresh_by c.in_ok-last.last (all_records c.args.files.items) each c.args.files.items fresh.items all) c.fresh_by.ensures
