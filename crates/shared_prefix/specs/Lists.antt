-- Which list it is of which threads have prefixes.
use Rattle.logbook.specs.Pages.{Book}
use Rattle.shared_prefix.specs.declared.prefix.Opened.{Opened}

-- the list that was opened
abbrev pub book_of : {C : Type 0} → Opened C → Book
book_of opened = opened.seen.book
