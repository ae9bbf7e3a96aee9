-- Why whole journals are no run of the world: the first fault.
use Rattle.std.specs.Prelude.{◌≡◌, ◌<◌, ◌≤◌, ◌+◌, ◌⊎◌, ℕ, List, take, length}
use Rattle.key_state.specs.declared.content.Key.{Key}
use Rattle.key_state.specs.State.{State}
use Rattle.journal.specs.Entry.{Entry, Merge, Read}
use Rattle.journal.specs.Logs.{Log}
use Rattle.journal.specs.Replay.{IsReplay}
use Rattle.world.specs.Represents.{log_at}
use Rattle.journal.specs.Stamps.{stamp_of}
use Rattle.audit_replay.specs.Turns.{EntryIn}
use Rattle.audit_faults.specs.declared.fault.EntryFault.{EntryFault}
use Rattle.audit_faults.specs.declared.fault.EntryFault.TheVariants.{Twice, Falls, NoSource, OtherState, GivenUp, Late, Illegal}
use Rattle.audit_faults.specs.declared.fault.AuditFault.{AuditFault}
use Rattle.audit_faults.specs.declared.fault.AuditFault.TheVariants.{Found, NoMemory}

-- an entry of a vnode's journal, by the vnode's identifier
abbrev pub EntryAt : List Log → ℕ → ℕ → Entry → Type 0
EntryAt logs vnode place e = (index : ℕ) × ((log_at logs index).vnode ≡ vnode) × EntryIn logs index place e

-- the stamp at a place of a journal, by its index, is not above the one before it
abbrev pub FallsIn : List Log → ℕ → ℕ → Type 0
FallsIn logs index place = (before : ℕ) × (a : Entry) × (b : Entry) × (place ≡ before + 1) × EntryIn logs index before a × EntryIn logs index place b × (stamp_of b ≤ stamp_of a)

-- the same, by the vnode's identifier
abbrev pub FallsAt : List Log → ℕ → ℕ → Type 0
FallsAt logs vnode place = (index : ℕ) × ((log_at logs index).vnode ≡ vnode) × FallsIn logs index place

-- two journals have one stamp, the second of them here
abbrev pub TwiceAt : List Log → ℕ → ℕ → ℕ → Type 0
TwiceAt logs vnode place stamp = (other there : ℕ) × (a : Entry) × (b : Entry) × EntryAt logs other there a × EntryAt logs vnode place b × (stamp_of a ≡ stamp) × (stamp_of b ≡ stamp) × (other < vnode)

-- a merge names no earlier read of its key
abbrev pub NoSourceAt : List Log → ℕ → ℕ → ℕ → Type 0
NoSourceAt logs vnode place stamp = (key : Key) × (from at : ℕ) × (state : State) × EntryAt logs vnode place (Merge stamp key from at state)
    × ((read : ℕ) → EntryAt logs from at (Read read key) → stamp ≤ read)

-- a merge names an earlier read of its key that answered another state
abbrev pub OtherStateAt : List Log → ℕ → ℕ → ℕ → Type 0
OtherStateAt logs vnode place stamp = (key : Key) × (from at : ℕ) × (state : State) × EntryAt logs vnode place (Merge stamp key from at state)
    × ((read : ℕ) × EntryAt logs from at (Read read key) × (read < stamp))
    × ((index : ℕ) → index < length logs → (log_at logs index).vnode ≡ from → IsReplay (take at (log_at logs index).entries) key state → ⊥)

-- no stamp falls
abbrev pub NoneFalls : List Log → Type 0
NoneFalls logs = (vnode place : ℕ) → FallsAt logs vnode place → ⊥

-- no stamp stands twice
abbrev pub NoneTwice : List Log → Type 0
NoneTwice logs = (vnode place stamp : ℕ) → TwiceAt logs vnode place stamp → ⊥

-- a merge with this stamp has another source than it names
abbrev pub HasNoSuchSource : List Log → ℕ → ℕ → ℕ → Type 0
HasNoSuchSource logs vnode place stamp = NoSourceAt logs vnode place stamp ⊎ OtherStateAt logs vnode place stamp

-- Each fault, told at a vnode and a place, where the faults before it stand nowhere, and it stands nowhere earlier: a stamp that falls comes first, then one that
-- stands twice, then a merge's source. The others are told of no whole journals: no answer is given up, no entry comes late, and each journal is legal.
abbrev pub IsFaultAt : List Log → EntryFault → ℕ → ℕ → Type 0
IsFaultAt logs Falls vnode place = FallsAt logs vnode place × ((v p : ℕ) → FallsAt logs v p → (vnode < v) ⊎ ((vnode ≡ v) × (place ≤ p)))
IsFaultAt logs Twice vnode place = NoneFalls logs × ((stamp : ℕ) × TwiceAt logs vnode place stamp × ((v p s : ℕ) → TwiceAt logs v p s → (stamp < s) ⊎ ((stamp ≡ s) × (vnode ≤ v))))
IsFaultAt logs NoSource vnode place = NoneFalls logs × NoneTwice logs
    × ((stamp : ℕ) × NoSourceAt logs vnode place stamp × ((v p s : ℕ) → HasNoSuchSource logs v p s → stamp ≤ s))
IsFaultAt logs OtherState vnode place = NoneFalls logs × NoneTwice logs
    × ((stamp : ℕ) × OtherStateAt logs vnode place stamp × ((v p s : ℕ) → HasNoSuchSource logs v p s → stamp ≤ s))
IsFaultAt logs GivenUp vnode place = ⊥
IsFaultAt logs Late vnode place = ⊥
IsFaultAt logs Illegal vnode place = ⊥

-- an audit's fault is one of these, or want of memory, which no stamp that falls is told as
abbrev pub IsFault : List Log → AuditFault → Type 0
IsFault logs (Found code vnode place) = IsFaultAt logs code vnode place
IsFault logs NoMemory = NoneFalls logs

-- each merge has the state of the earlier read that it names
abbrev pub AllHaveSources : List Log → Type 0
AllHaveSources logs = (vnode place stamp : ℕ) → HasNoSuchSource logs vnode place stamp → ⊥

-- nothing of what is told as a fault stands anywhere
pub record IsFaultless (logs : List Log) : Type 0 where
  pub rising : NoneFalls logs
  pub single : NoneTwice logs
  pub sources : AllHaveSources logs
