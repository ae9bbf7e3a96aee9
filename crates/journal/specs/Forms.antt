-- How an entry is kept, what is long beside it, and how its parts are lent and handed over.
use Rattle.std.specs.Prelude.{ℕ}
use Rattle.journal.specs.Entry.{Entry, Put, Merge, Read, Restart}
use Rattle.journal.specs.declared.entry.Event.{Event}
use Rattle.journal.specs.declared.entry.Event.TheVariants as kept
use Rattle.journal.specs.declared.entry.Said.{Said}
use Rattle.journal.specs.declared.entry.Said.TheVariants as lent
use Rattle.journal.specs.declared.entry.Taken.{Taken}
use Rattle.journal.specs.declared.entry.Taken.TheVariants as given

-- the entry of a stamp and a kept event
abbrev pub entry_of : ℕ → Event → Entry
entry_of stamp (kept.Put vnode n write) = Put stamp write.value.key write.value.seen write.value.content (record { vnode = vnode; n = n })
entry_of stamp (kept.Merge merge) = Merge stamp merge.value.key merge.value.from merge.value.at merge.value.state
entry_of stamp (kept.Read key) = Read stamp key
entry_of stamp kept.Restart = Restart stamp

-- the entry of lent parts
abbrev pub entry_said : Said → Entry
entry_said (lent.Put stamp key seen content dot) = Put stamp key.now seen.now content.now dot
entry_said (lent.Merge stamp key from at state) = Merge stamp key.now from at state.now
entry_said (lent.Read stamp key) = Read stamp key.now
entry_said (lent.Restart stamp) = Restart stamp

-- the entry of parts that were handed over
abbrev pub entry_taken : Taken → Entry
entry_taken (given.Put stamp write dot) = Put stamp write.value.key write.value.seen write.value.content dot
entry_taken (given.Merge stamp merged) = Merge stamp merged.value.key merged.value.from merged.value.at merged.value.state
entry_taken (given.Read stamp key) = Read stamp key
entry_taken (given.Restart stamp) = Restart stamp
