use Rattle.std.proofs.Common.{◌≡◌, take}
use Rattle.key_state.specs.declared.content.Key.{Key}
use Rattle.kept_fold.specs.Merging.{all_records}
use Rattle.kept_fold.specs.Stale.{last_fold, number_at}
use Rattle.kept_fold.proofs.stale.last_folds.Given as goal

-- those of the files so far are there
abbrev pub invariant-loop-file : goal.invariant-loop-file
invariant-loop-file l = (key : Key) → number_at l.last key ≡ last_fold (all_records (take l.file-index l.files)) key
