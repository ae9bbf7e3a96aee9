-- A journal and whose it is.
use Rattle.std.specs.Prelude.{ℕ, ◌^◌, List, [], ◌∷◌, ◌++◌}
use Rattle.journal.specs.Entry.{Entry}

-- the most entries of a vnode (this store's profile)
abbrev pub max_entries : ℕ
max_entries = 2 ^ 62

-- the entries of a vnode, oldest first
pub record Log : Type 0 where
  pub vnode : ℕ
  pub entries : List Entry

-- one more entry
abbrev pub with_entry : Log → Entry → Log
with_entry log e = record { vnode = log.vnode; entries = log.entries ++ e ∷ [] }

-- so many more entries
abbrev pub with_entries : Log → List Entry → Log
with_entries log es = record { vnode = log.vnode; entries = log.entries ++ es }

-- a log, how many of its entries were handed out, and how many can be added before it has to grow
pub record RoomyLog : Type 0 where
  pub log : Log
  pub first : ℕ
  pub room : ℕ
