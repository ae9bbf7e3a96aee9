-- The calls by which a vnode's records are taken while it serves, and the records.
use Rattle.std.specs.Prelude.{◌≡◌, ℕ, List, [], ◌∷◌, map, Ok}
use Rattle.std.specs.Global.{Vec}
use Rattle.key_state.specs.declared.content.Key.{Key}
use Rattle.record_codec.specs.declared.record.Record.{Record}
use Rattle.peers.specs.declared.peers.Answer.{Answer}
use Rattle.peers.specs.Calls.{Call, PutAt, MergeAt, StateOf, SummaryAt, MergePartAt, KeysOf}
use Rattle.vnode.specs.declared.steps.Copied.{Copied}
use Rattle.record_codec.specs.Lists.{record_of}
use Rattle.kept_file.specs.declared.snapshot.SnapshotFault.{SnapshotFault}
use Rattle.kept_file.specs.declared.snapshot.SnapshotFault.TheVariants as fault

-- a read of each key at a vnode, in order, and what each answered
abbrev pub reads_at : ℕ → List Key → List Answer → List Call
reads_at i [] answers = []
reads_at i (key ∷ keys) [] = []
reads_at i (key ∷ keys) (answer ∷ answers) = StateOf i key (Ok answer) ∷ reads_at i keys answers

-- a call changes nothing: the vnode names its keys, or one is read, and it is this vnode
abbrev pub IsReadAt : ℕ → Call → Type 0
IsReadAt i (PutAt j key seen content back) = ⊥
IsReadAt i (MergeAt j key from at state back) = ⊥
IsReadAt i (StateOf j key back) = j ≡ i
IsReadAt i (SummaryAt j key back) = ⊥
IsReadAt i (MergePartAt j key from at part back) = ⊥
IsReadAt i (KeysOf j back) = j ≡ i

-- the record of what the read of a key answered
abbrev pub record_read : Key → Answer → Record
record_read key answer = record { key = key; from = answer.from; at = answer.at; state = answer.state }

-- the record of each key, in order
abbrev pub records_read : List Key → List Answer → List Record
records_read [] answers = []
records_read (key ∷ keys) [] = []
records_read (key ∷ keys) (answer ∷ answers) = record_read key answer ∷ records_read keys answers

-- the vnode names its keys, and each is read
abbrev pub snapshot_calls : ℕ → Vec Key → List Answer → List Call
snapshot_calls i keys answers = KeysOf i (Ok keys) ∷ reads_at i keys.items answers

-- the record of each copy of a vnode, all of which were made at one place of its journal
abbrev pub records_held : ℕ → ℕ → List Copied → List Record
records_held from at held = map (λ (c : Copied). record_of c.key from at c.state) held

-- why a record isn't written: for its limits, for memory or for the device
abbrev pub IsOfWriting : SnapshotFault → Type 0
IsOfWriting (fault.Unread why) = ⊥
IsOfWriting fault.PastLimit = Unit {0}
IsOfWriting fault.NoMemory = Unit {0}
IsOfWriting fault.Unwritten = Unit {0}
IsOfWriting fault.GivenUp = ⊥
