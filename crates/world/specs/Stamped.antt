-- The stamps of a world's entries: each is the number of entries that all journals had before (this store's profile).
use Rattle.std.specs.Prelude.{◌≡◌, ℕ, ◌<◌, List, [], length, Contains}
use Rattle.std.specs.List.{sum_by}
use Rattle.journal.specs.Entry.{Entry}
use Rattle.journal.specs.Logs.{Log}
use Rattle.journal.specs.Stamps.{stamp_of}
use Rattle.world.specs.Causality.{EachAfter}
use Rattle.world.specs.Represents.{log_at}

-- how many entries the journals have together
abbrev pub entries_of : List Log → ℕ
entries_of logs = sum_by (λ log. length log.entries) logs

-- an entry has a greater stamp than those before it
abbrev pub IsLater : List Entry → Entry → Type 0
IsLater before e = (earlier : Entry) → Contains before earlier → stamp_of earlier < stamp_of e

-- Stamps rise in each journal, no two journals share one, and all are below the number of entries made: each number below it is one entry's.
pub record AreStamped (logs : List Log) (made : ℕ) : Type 0 where
  pub count : entries_of logs ≡ made
  pub below : (vnode : ℕ) (e : Entry) → Contains (log_at logs vnode).entries e → stamp_of e < made
  pub rise : (vnode : ℕ) → EachAfter IsLater [] (log_at logs vnode).entries
  pub differ : (u v : ℕ) (e f : Entry) → Contains (log_at logs u).entries e → Contains (log_at logs v).entries f → stamp_of e ≡ stamp_of f → u ≡ v
