-- Entries more at one of the vnodes.
use Rattle.std.specs.Prelude.{◌≡◌, ℕ, ◌+◌, ◌≤◌, Bool, false, List, [], ◌∷◌, ◌++◌, length, slice_set}
use Rattle.std.specs.List.{All}
use Rattle.std.specs.List.Sorted.{IsStrictlySortedBy}
use Rattle.key_state.specs.Parts.{part_of, whole_of, lacks_some, Summarized}
use Rattle.key_state.specs.State.{State}
use Rattle.journal.specs.Answers.{TellsChange}
use Rattle.journal.specs.Entry.{Entry, Merge}
use Rattle.key_state.specs.declared.content.Key.{Key}
use Rattle.journal.specs.Journals.{MayFollow, IsJournal}
use Rattle.journal.specs.Keys.{key_cmp}
use Rattle.journal.specs.Logs.{Log, with_entries, max_entries}
use Rattle.journal.specs.Replay.{IsReplay}
use Rattle.vnode.specs.declared.steps.Copied.{Copied}
use Rattle.vnode.specs.Keys.{AreKeys, reads_of}
use Rattle.vnode.specs.States.{keys_of}
use Rattle.world.specs.declared.event.Copies.{Copies}
use Rattle.world.specs.declared.event.Message.{Message}
use Rattle.world.specs.declared.event.PartMessage.{PartMessage}
use Rattle.world.specs.Represents.{log_at, with_entry_at}

-- a vnode has an entry more, which may follow its others
pub record Appends (old new : List Log) (at : ℕ) (entry : Entry) : Type 0 where
  pub entries : new ≡ with_entry_at old at entry
  pub follows : MayFollow (log_at old at).vnode (log_at old at).entries entry

-- the state of a key as a vnode's next entry copies it
pub record IsCopyOf (log : Log) (key : Key) (message : Message) : Type 0 where
  pub key_is : message.key ≡ key
  pub from : message.from ≡ log.vnode
  pub at : message.at ≡ length log.entries
  pub state : IsReplay log.entries key message.state

-- a message without the contents of the dots that a summary holds
abbrev pub without : Message → Summarized → PartMessage
without message summary = record { key = message.key; from = message.from; at = message.at; part = part_of message.state summary }

-- a vnode that has this state of a key has merged the whole state that a part stands for beside it, and a bool tells whether that changed something
pub record MergesPart (old new : List Log) (at stamp : ℕ) (message : PartMessage) (changed : Bool) (own : State) : Type 0 where
  pub own_is : IsReplay (log_at old at).entries message.key own
  pub held : lacks_some own message.part ≡ false
  pub entry : Appends old new at (Merge stamp message.key message.from message.at (whole_of message.part own))
  pub tells : TellsChange (log_at old at).entries (Merge stamp message.key message.from message.at (whole_of message.part own)) message.key changed

-- copies of rising keys, each by an entry that has a place
pub record AreCopies (copies : Copies) : Type 0 where
  pub rising : IsStrictlySortedBy key_cmp (keys_of copies.held.items)
  pub places : copies.first + length copies.held.items ≤ max_entries

-- a vnode has read each of its keys, with stamps in a row, and these are the copies
pub record CopiesAll (old new : List Log) (at stamp : ℕ) (copies : Copies) : Type 0 where
  pub keys : AreKeys (log_at old at) (keys_of copies.held.items)
  pub states : All (λ c. IsReplay (log_at old at).entries c.key c.state) copies.held.items
  pub from : copies.from ≡ (log_at old at).vnode
  pub first : copies.first ≡ length (log_at old at).entries
  pub entries : new ≡ slice_set old at (with_entries (log_at old at) (reads_of stamp (keys_of copies.held.items)))
  pub legal : IsJournal (log_at old at).vnode ((log_at old at).entries ++ reads_of stamp (keys_of copies.held.items))
  pub places : length (log_at old at).entries + length (keys_of copies.held.items) ≤ max_entries

-- a merge of each copy, with stamps and places in a row
abbrev pub merges_of_copies : ℕ → ℕ → ℕ → List Copied → List Entry
merges_of_copies stamp from at [] = []
merges_of_copies stamp from at (one ∷ held) = Merge stamp one.key from at one.state ∷ merges_of_copies (stamp + 1) from (at + 1) held

-- an index has gone on under a new identifier, with a merge of each copy, and the vnode that it had stands behind the others
pub record LoadsAll (old new : List Log) (at id stamp : ℕ) (copies : Copies) : Type 0 where
  pub entries : new ≡ slice_set old at (record { vnode = id; entries = merges_of_copies stamp copies.from copies.first copies.held.items }) ++ log_at old at ∷ []
  pub legal : IsJournal id (merges_of_copies stamp copies.from copies.first copies.held.items)
