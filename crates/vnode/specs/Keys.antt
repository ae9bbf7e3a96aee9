-- The keys that a vnode names.
use Rattle.std.specs.Prelude.{ℕ, ◌+◌, List, [], ◌∷◌, Contains, ◌↔◌}
use Rattle.std.specs.List.{IsDistinct}
use Rattle.std.specs.List.Sorted.{IsStrictlySortedBy}
use Rattle.key_state.specs.declared.content.Key.{Key}
use Rattle.journal.specs.Entry.{Entry, Read}
use Rattle.journal.specs.Keys.{key_cmp}
use Rattle.journal.specs.Logs.{Log}
use Rattle.journal.specs.Replay.{IsKeyOf}
use Rattle.vnode.specs.Shards.{key_eq}

-- the keys of a vnode, each once, in the order of bytes
pub record AreKeys (log : Log) (keys : List Key) : Type 0 where
  pub each : (k : Key) → Contains keys k ↔ IsKeyOf log.entries k
  pub rising : IsStrictlySortedBy key_cmp keys

-- the keys of a vnode, each once, in any order
pub record AreUnsorted (log : Log) (keys : List Key) : Type 0 where
  pub each : (k : Key) → Contains keys k ↔ IsKeyOf log.entries k
  pub once : IsDistinct key_eq keys

-- a read of each key, with stamps in a row
abbrev pub reads_of : ℕ → List Key → List Entry
reads_of stamp [] = []
reads_of stamp (key ∷ keys) = Read stamp key ∷ reads_of (stamp + 1) keys
