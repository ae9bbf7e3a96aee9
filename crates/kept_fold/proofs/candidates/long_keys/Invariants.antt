use Rattle.std.proofs.Common.{◌≡◌, take, if◌then◌else◌}
use Rattle.std.specs.Prelude.{None, Some}
use Rattle.std.specs.BTreeMap.{get}
use Rattle.key_state.specs.declared.content.Key.{Key}
use Rattle.key_state.specs.State.{empty}
use Rattle.journal.specs.Keys.{key_cmp}
use Rattle.kept_fold.specs.declared.candidates.Merging.TheVariants.{Merged}
use Rattle.kept_fold.specs.Merging.{all_records, is_long}
use Rattle.kept_fold.proofs.candidates.long_keys.Given as goal

-- the keys of the files so far are there
abbrev pub invariant-loop-file : goal.invariant-loop-file
invariant-loop-file l = (key : Key) → get key_cmp l.merges key ≡ (if is_long l.least (all_records (take l.file-index l.files)) key then Some (Merged empty) else None)
