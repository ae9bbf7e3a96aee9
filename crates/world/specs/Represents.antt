-- Vnodes and what they know: a journal is what was known at its vnode, put by put and message by message.
use Rattle.std.specs.Prelude.{◌≡◌, ℕ, ◌<◌, ◌↔◌, true, List, [], length, slice_set, slice_index_or, Some, map}
use Rattle.dvv.specs.declared.Dot.{Dot}
use Rattle.key_state.specs.declared.content.Content.{Content}
use Rattle.key_state.specs.declared.content.Key.{Key}
use Rattle.key_state.specs.Known.{Write, IsCurrent, InContext}
use Rattle.journal.specs.Entry.{Entry}
use Rattle.journal.specs.Logs.{Log, with_entry}
use Rattle.journal.specs.Replay.{sibling_in, known_in}
use Rattle.journal.specs.Journals.{IsJournal}
use Rattle.journal.specs.Brought.{BringsAll}
use Rattle.world.specs.Knowledge.{Knowledge, id_of, known_at, accepted_at}
use Rattle.world.specs.Numbering.{IsLawful, KnowOwn}

-- The siblings that a journal leaves at a key are the current ones of some writes, each under its identifier, and the clock stands for their context.
pub record ShowsAt (journal : List Entry) (key : Key) (known : List Write) : Type 0 where
  pub siblings : (dot : Dot) (content : Content) → (sibling_in journal key dot ≡ Some content) ↔ ((write : Write) × IsCurrent known write × (write.dot ≡ dot) × (write.content ≡ content))
  pub clock : (dot : Dot) → (known_in journal key dot ≡ true) ↔ InContext known dot

-- the vnode at an index, as its journal
abbrev pub log_at : List Log → ℕ → Log
log_at logs vnode = slice_index_or logs vnode (record { vnode = 0; entries = [] })

-- vnodes of these identifiers at which nothing happened
abbrev pub empty_logs : List ℕ → List Log
empty_logs ids = map (λ id. record { vnode = id; entries = [] }) ids

-- each identifier stands once
abbrev pub AreDistinct : List ℕ → Type 0
AreDistinct ids = (u v : ℕ) → u < length ids → v < length ids → slice_index_or ids u 0 ≡ slice_index_or ids v 0 → u ≡ v

-- one entry more at a vnode
abbrev pub with_entry_at : List Log → ℕ → Entry → List Log
with_entry_at logs vnode entry = slice_set logs vnode (with_entry (log_at logs vnode) entry)

-- the vnodes' journals brought them what they know, and no more
pub record Represents (logs : List Log) (world : Knowledge) : Type 0 where
  pub lawful : IsLawful world
  pub own : KnowOwn world
  pub distinct : (u v : ℕ) → u < length logs → v < length logs → id_of world u ≡ id_of world v → u ≡ v
  pub size : length world.known ≡ length logs
  pub counts : length world.accepted ≡ length logs
  pub ids : (vnode : ℕ) → vnode < length logs → (log_at logs vnode).vnode ≡ id_of world vnode
  pub accepted : (vnode : ℕ) → vnode < length logs → length (log_at logs vnode).entries ≡ accepted_at world vnode
  pub legal : (vnode : ℕ) → vnode < length logs → IsJournal (id_of world vnode) (log_at logs vnode).entries
  pub brings : (vnode : ℕ) (key : Key) → vnode < length logs → BringsAll key (log_at logs vnode).entries (known_at world vnode key)
