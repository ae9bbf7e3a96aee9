use Rattle.std.proofs.Common.{take}
use Rattle.std.specs.BTreeMap.{get}
use Rattle.key_state.specs.declared.content.Key.{Key}
use Rattle.journal.specs.Keys.{key_cmp}
use Rattle.kept_fold.specs.Merging.{GoesOn, all_records, states_of}
use Rattle.kept_fold.proofs.candidates.merge_files.Given as goal

-- those of the files so far were merged
abbrev pub invariant-loop-file : goal.invariant-loop-file
invariant-loop-file l = (key : Key) → GoesOn (states_of (all_records (take l.file-index l.files)) key) (get key_cmp l.initial.merges key) (get key_cmp l.merges key)
