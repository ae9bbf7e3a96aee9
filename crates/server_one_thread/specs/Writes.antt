-- What a write leaves in the journals (dotted version vectors, Preguiça et al. 2010; Riak KV documentation, writes).
use Rattle.std.specs.Prelude.{◌≡◌, ℕ, ◌≤◌, Bool, false, List, ◌∷◌, Option, None, Some, count_by, slice_get}
use Rattle.dvv.specs.declared.Dot.{Dot}
use Rattle.key_state.specs.declared.content.Content.{Content}
use Rattle.key_state.specs.declared.content.Key.{Key}
use Rattle.journal.specs.Entry.{Put}
use Rattle.journal.specs.Logs.{Log, with_entry}
use Rattle.journal.specs.Replay.{IsNextDot, known_in}
use Rattle.server_store.specs.Calls.{coordinator, the_others}
use Rattle.server_one_thread.specs.Journals.{GoesOn}
use Rattle.server_one_thread.specs.Past.{Past}

-- between two times a content was put at a vnode, as one who had seen what a context counts: its journal went on, then came the entry
-- of the put, under the next dot of the vnode, and then it went on
pub record IsPutAt (old new : List Log) (i : ℕ) (key : Key) (seen : List Dot) (content : Content) (dot : Dot) : Type 0 where
  pub first : Log
  pub before : Log
  pub last : Log
  pub stamp : ℕ
  pub from : slice_get old i ≡ Some first
  pub began : GoesOn first before
  pub next : IsNextDot before.entries key before.vnode dot
  pub stays : GoesOn (with_entry before (Put stamp key seen content dot)) last
  pub to : slice_get new i ≡ Some last

-- whether the journal of a vnode knows a dot
abbrev pub knows : Key → Dot → Option Log → Bool
knows key dot None = false
knows key dot (Some log) = known_in log.entries key dot

-- what the answer to a write tells: the coordinator put a content under this dot, and at least w vnodes of the key's list know it
pub record IsStored (old new : Past) (key : Key) (seen : List Dot) (w at : ℕ) (dot : Dot) : Type 0 where
  pub content : Content
  pub put : IsPutAt old.peers.logs new.peers.logs (coordinator old key at) key seen content dot
  pub copies : w ≤ count_by (λ i. knows key dot (slice_get new.peers.logs i)) (coordinator old key at ∷ the_others old key at)
