-- The state that the last of some entries merged.
use Rattle.std.specs.Prelude.{List, [], ◌∷◌}
use Rattle.key_state.specs.State.{State, empty}
use Rattle.journal.specs.Entry.{Entry, Put, Merge, Read, Restart}

-- the state that an entry merges: nothing written where it is no merge
abbrev pub merged_by : Entry → State
merged_by (Put stamp key seen content dot) = empty
merged_by (Merge stamp key from at state) = state
merged_by (Read stamp key) = empty
merged_by (Restart stamp) = empty

-- the state that the last entry merges
abbrev pub last_merged : List Entry → State
last_merged [] = empty
last_merged (e ∷ []) = merged_by e
last_merged (e ∷ next ∷ more) = last_merged (next ∷ more)
