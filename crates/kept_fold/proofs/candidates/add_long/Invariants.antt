use Rattle.std.proofs.Common.{◌≡◌, take, if◌then◌else◌}
use Rattle.std.specs.Prelude.{Some}
use Rattle.std.specs.BTreeMap.{get}
use Rattle.key_state.specs.declared.content.Key.{Key}
use Rattle.key_state.specs.State.{empty}
use Rattle.journal.specs.Keys.{key_cmp}
use Rattle.kept_fold.specs.declared.candidates.Merging.TheVariants.{Merged}
use Rattle.kept_fold.specs.Merging.{is_long}
use Rattle.kept_fold.proofs.candidates.add_long.Given as goal

-- the keys of those so far are there
abbrev pub invariant-loop-record : goal.invariant-loop-record
invariant-loop-record l = (key : Key) → get key_cmp l.merges key ≡ (if is_long l.least (take l.record-index l.records) key then Some (Merged empty) else get key_cmp l.initial.merges key)
