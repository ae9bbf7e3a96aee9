-- Records of a vnode's keys, and the merges by which another vnode takes them over (this store's profile).
use Rattle.std.specs.Prelude.{ℕ, List, [], ◌∷◌, map, Contains}
use Rattle.std.specs.List.Sorted.{IsStrictlySortedBy}
use Rattle.key_state.specs.declared.content.Key.{Key}
use Rattle.key_state.specs.State.{IsState}
use Rattle.journal.specs.Entry.{Entry, Merge}
use Rattle.journal.specs.Keys.{key_cmp}
use Rattle.journal.specs.Logs.{Log}
use Rattle.journal.specs.Replay.{IsReplay}
use Rattle.vnode.specs.Keys.{AreKeys}
use Rattle.record_codec.specs.declared.record.Record.{Record}

-- the keys of records
abbrev pub keys_in : List Record → List Key
keys_in records = map (λ r. r.key) records

-- merges of records, one after another, whatever their stamps
pub data AreMergesOf : List Entry → List Record → Type 0 where
  nothing : AreMergesOf [] []
  one_more : (stamp : ℕ) (r : Record) (es : List Entry) (records : List Record) → AreMergesOf es records → AreMergesOf (Merge stamp r.key r.from r.at r.state ∷ es) (r ∷ records)

-- records of rising keys, each with a state
pub record AreRising (records : List Record) : Type 0 where
  pub rising : IsStrictlySortedBy key_cmp (keys_in records)
  pub states : (r : Record) → Contains records r → IsState r.state

-- records of each key of a vnode, in the order of keys, each with what the vnode's journal leaves there
pub record AreOfAll (log : Log) (records : List Record) : Type 0 where
  pub keys : AreKeys log (keys_in records)
  pub states : (r : Record) → Contains records r → IsReplay log.entries r.key r.state
