use Rattle.std.proofs.Common.{take}
use Rattle.std.specs.BTreeMap.{get}
use Rattle.key_state.specs.declared.content.Key.{Key}
use Rattle.journal.specs.Keys.{key_cmp}
use Rattle.kept_fold.specs.Merging.{GoesOn, states_of}
use Rattle.kept_fold.proofs.candidates.merge_records.Given as goal

-- those so far were merged
abbrev pub invariant-loop-record : goal.invariant-loop-record
invariant-loop-record l = (key : Key) → GoesOn (states_of (take l.record-index l.records) key) (get key_cmp l.initial.merges key) (get key_cmp l.merges key)
