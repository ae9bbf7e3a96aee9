-- What was taken of some vnodes' journals: what was followed, and what waits.
use Rattle.std.specs.Prelude.{◌≡◌, ◌≤◌, ◌+◌, ℕ, List, [], ◌∷◌, ◌++◌, length, slice_get, slice_index_or, sum_by, Option, Some}
use Rattle.journal.specs.Entry.{Entry}
use Rattle.journal.specs.Logs.{Log}
use Rattle.journal.specs.Stamps.{stamp_of}
use Rattle.world.specs.Represents.{log_at}
use Rattle.audit_replay.specs.declared.kept.Recent.{Recent}
use Rattle.audit_replay.specs.Sizes.{entry_bytes}
use Rattle.audit_faults.specs.declared.fault.AuditFault.{AuditFault}

-- what waits of the vnode with this index
abbrev pub waiting_at : List (List Entry) → ℕ → List Entry
waiting_at waiting index = slice_index_or waiting index []

-- how many of the first entries of each vnode were there before, what was followed of each, what waits, the fault that was found, if any, and of which of the last entries of each vnode answers are kept
pub record Taken : Type 0 where
  pub fronts : List ℕ
  pub followed : List Log
  pub waiting : List (List Entry)
  pub fault : Option AuditFault
  pub recent : Recent

-- how many entries were taken of the vnode with this index
abbrev pub taken_at : Taken → ℕ → ℕ
taken_at taken index = length (log_at taken.followed index).entries + length (waiting_at taken.waiting index)

-- an entry is the next one of those that wait of a vnode
abbrev pub IsNext : List (List Entry) → ℕ → Entry → Type 0
IsNext waiting index e = slice_get (waiting_at waiting index) 0 ≡ Some e

-- no entry that is the next one of a vnode has a stamp below this
abbrev pub NoneBelow : List (List Entry) → ℕ → Type 0
NoneBelow waiting below = (index : ℕ) (e : Entry) → IsNext waiting index e → below ≤ stamp_of e

-- of each vnode the same was taken: what was followed and what waits, together
pub record AreTakenAlike (old : List Log) (waited : List (List Entry)) (new : List Log) (waiting : List (List Entry)) : Type 0 where
  pub size : length new ≡ length old
  pub vnodes : (index : ℕ) → (log_at new index).vnode ≡ (log_at old index).vnode
  pub entries : (index : ℕ) → (log_at new index).entries ++ waiting_at waiting index ≡ (log_at old index).entries ++ waiting_at waited index

-- how many entries wait
abbrev pub count_waiting : List (List Entry) → ℕ
count_waiting [] = 0
count_waiting (queue ∷ queues) = length queue + count_waiting queues

-- how many bytes their contents have
abbrev pub bytes_waiting : List (List Entry) → ℕ
bytes_waiting [] = 0
bytes_waiting (queue ∷ queues) = sum_by entry_bytes queue + bytes_waiting queues
