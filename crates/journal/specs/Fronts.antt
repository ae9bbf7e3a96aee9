-- Entries that a journal has handed out.
use Rattle.std.specs.Prelude.{List, [], Option, Some, None}
use Rattle.std.specs.declared.snapshot.Snapshot.{Snapshot}
use Rattle.journal.specs.Entry.{Entry}

-- the entries that stand before those that are still here
abbrev pub front_of : Option (Snapshot (List Entry)) → List Entry
front_of None = []
front_of (Some front) = front.value
