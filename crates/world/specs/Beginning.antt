-- How a run begins that goes on from records: vnodes of one incarnation, the first of which has merged them.
use Rattle.std.specs.Prelude.{◌≡◌, ℕ, ◌+◌, List, [], ◌∷◌, take, slice_get, slice_set, Some}
use Rattle.journal.specs.Entry.{Entry, Merge}
use Rattle.journal.specs.Logs.{Log, with_entries}
use Rattle.vnode.specs.Refusals.{RefusesMerge}
use Rattle.record_codec.specs.declared.record.Record.{Record}
use Rattle.world.specs.declared.beginning.BeginFault.{BeginFault}
use Rattle.world.specs.declared.beginning.BeginFault.TheVariants as begin
use Rattle.world.specs.declared.event.Event.{Event}
use Rattle.world.specs.Knowledge.{Knowledge, id_under, ids_under}
use Rattle.world.specs.Represents.{empty_logs}
use Rattle.world.specs.Running.{Begins}

-- a merge of each record, in order, with stamps in a row
abbrev pub merges_of : ℕ → List Record → List Entry
merges_of stamp [] = []
merges_of stamp (r ∷ records) = Merge stamp r.key r.from r.at r.state ∷ merges_of (stamp + 1) records

-- vnodes of an incarnation, the first of which has merged records
abbrev pub first_logs : ℕ → ℕ → List Record → List Log
first_logs incarnation vnodes records = slice_set (empty_logs (ids_under incarnation vnodes)) 0 (record { vnode = id_under incarnation 0; entries = merges_of 0 records })

-- a world that has led to the records: in it such vnodes stand, and no load of the events is of an identifier in use
abbrev pub BeginsWith : ℕ → ℕ → List Record → List Event → Knowledge → Type 0
BeginsWith incarnation vnodes records events begin = Begins (first_logs incarnation vnodes records) events begin

-- why a vnode that has a journal doesn't merge records: it has merged those before a place, and refuses that one
abbrev pub RefusesRecordsAt : Log → List Record → BeginFault → Type 0
RefusesRecordsAt log records (begin.Record place fault) = (r : Record) × (slice_get records place ≡ Some r) × RefusesMerge (with_entries log (merges_of 0 (take place records))) r.key r.state fault
RefusesRecordsAt log records begin.NoMemory = Unit {0}

-- the same, of a vnode of this identifier at which nothing has happened
abbrev pub RefusesRecords : ℕ → List Record → BeginFault → Type 0
RefusesRecords id records fault = RefusesRecordsAt (record { vnode = id; entries = [] }) records fault
