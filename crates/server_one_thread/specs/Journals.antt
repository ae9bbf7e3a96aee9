-- The journals of the vnodes, from one request to the next (this store's profile).
use Rattle.std.specs.Prelude.{◌≡◌, List, ◌++◌}
use Rattle.std.specs.List.{AllByRecursion, AllZip}
use Rattle.journal.specs.Entry.{Entry}
use Rattle.journal.specs.Journals.{IsJournal}
use Rattle.journal.specs.Logs.{Log}

-- each of them is the journal of its vnode
abbrev pub AreJournals : List Log → Type 0
AreJournals logs = AllByRecursion (λ log. IsJournal log.vnode log.entries) logs

-- a journal goes on: it is the front of what it is later
abbrev pub GoesOn : Log → Log → Type 0
GoesOn old new = (new.vnode ≡ old.vnode) × (more : List Entry) × (new.entries ≡ old.entries ++ more)

-- each of them goes on
abbrev pub GoOn : List Log → List Log → Type 0
GoOn old new = AllZip GoesOn old new
