use Rattle.std.proofs.Common.{◌≡◌, take}
use Rattle.std.specs.Prelude.{max}
use Rattle.key_state.specs.declared.content.Key.{Key}
use Rattle.kept_fold.specs.Stale.{last_fold, number_at}
use Rattle.kept_fold.proofs.stale.add_folds.Given as goal

-- those so far are added
abbrev pub invariant-loop-record : goal.invariant-loop-record
invariant-loop-record l = (key : Key) → number_at l.last key ≡ max (number_at l.initial.last key) (last_fold (take l.record-index l.records) key)
