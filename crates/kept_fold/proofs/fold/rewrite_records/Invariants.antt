use Rattle.std.proofs.Common.{◌≡◌, ◌++◌, take, drop}
use Rattle.std.specs.Prelude.{map}
use Rattle.std.specs.BTreeMap.{get}
use Rattle.journal.specs.Keys.{key_cmp}
use Rattle.record_codec.specs.declared.record.Record.{Record}
use Rattle.kept_fold.specs.Folds.{rewritten, to_fold}
use Rattle.kept_fold.proofs.fold.rewrite_records.Given as goal

-- those so far are rewritten, and the others stay
abbrev pub invariant-loop-one : goal.invariant-loop-one
invariant-loop-one l = l.records ≡ map (λ (r : Record). rewritten l.id (to_fold (get key_cmp l.merges r.key)) r) (take l.one-index l.initial.records) ++ drop l.one-index l.initial.records
