-- Records, one after another, in a file.
use Rattle.std.specs.Prelude.{◌≡◌, ◌≢◌, ℕ, List, [], ◌++◌, length}
use Rattle.std.specs.List.{AllByRecursion, flat_map}
use Rattle.key_state.specs.declared.content.Key.{Key}
use Rattle.key_state.specs.State.{State}
use Rattle.record_codec.specs.declared.fault.WireFault.{WireFault}
use Rattle.record_codec.specs.declared.record.Record.{Record}
use Rattle.record_codec.specs.Records.{IsRecord, HasFault, spelling}
use Rattle.record_codec.specs.declared.lists.Unread.{Unread}
use Rattle.record_codec.specs.declared.lists.Unread.TheVariants as unread

-- the record of a key's state, which the read at a place of a vnode's journal answered
abbrev pub record_of : Key → ℕ → ℕ → State → Record
record_of key from at state = record { key = key; from = from; at = at; state = state }

-- bytes are those of records, one after another
pub record AreSpelledBy (records : List Record) (bytes : List ℕ) : Type 0 where
  pub each : AllByRecursion IsRecord records
  pub bytes_are : bytes ≡ flat_map spelling records

-- bytes begin with so many records, and then have a fault
pub record FaultAt (bytes : List ℕ) (place : ℕ) (fault : WireFault) : Type 0 where
  pub front : List Record
  pub rest : List ℕ
  pub count : length front ≡ place
  pub each : AllByRecursion IsRecord front
  pub bytes_are : bytes ≡ flat_map spelling front ++ rest
  pub more : rest ≢ []
  pub has : HasFault rest fault

-- why bytes are not read as records
abbrev pub IsUnread : List ℕ → Unread → Type 0
IsUnread bytes (unread.Faulty place fault) = FaultAt bytes place fault
IsUnread bytes unread.NoMemory = Unit {0}
