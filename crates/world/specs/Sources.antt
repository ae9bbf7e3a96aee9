-- What the merges of journals name: of which read each brings the answer.
use Rattle.std.specs.Prelude.{◌≡◌, ℕ, ◌+◌, ◌<◌, List, [], ◌∷◌, ◌++◌, length, map, slice_set, slice_index_or}
use Rattle.key_state.specs.declared.content.Key.{Key}
use Rattle.vnode.specs.declared.steps.Copied.{Copied as Held}
use Rattle.journal.specs.Entry.{Entry, Put, Merge, Read, Restart}
use Rattle.journal.specs.Logs.{Log, with_entries}
use Rattle.world.specs.declared.event.Event.{Event}
use Rattle.world.specs.declared.event.Event.TheVariants.{Deliver, Load}
use Rattle.world.specs.declared.event.Reply.{Reply}
use Rattle.world.specs.declared.event.Reply.TheVariants.{Sent, SentPart, Changed, Dumped, Loaded, Nothing}
use Rattle.world.specs.Represents.{log_at}

-- a read that answered: its key, the identifier of its vnode, and the place of its entry in that vnode's journal
pub record Source : Type 0 where
  pub key : Key
  pub from : ℕ
  pub at : ℕ

-- the reads that the merges among entries name, in order
abbrev pub sources_in : List Entry → List Source
sources_in [] = []
sources_in (Merge stamp key from at state ∷ es) = record { key = key; from = from; at = at } ∷ sources_in es
sources_in (Put stamp key seen content dot ∷ es) = sources_in es
sources_in (Read stamp key ∷ es) = sources_in es
sources_in (Restart stamp ∷ es) = sources_in es

-- the same of each journal
abbrev pub sources_of : List Log → List (List Source)
sources_of logs = map (λ (log : Log). sources_in log.entries) logs

-- reads that stand in a row, one for each copy
abbrev pub sources_from : ℕ → ℕ → List Held → List Source
sources_from from at [] = []
sources_from from at (one ∷ held) = record { key = one.key; from = from; at = at } ∷ sources_from from (at + 1) held

-- the reads whose answers a reply holds, for a delivery or a load
abbrev pub sources_told : Reply → List Source
sources_told (Sent message) = record { key = message.key; from = message.from; at = message.at } ∷ []
sources_told (SentPart message) = record { key = message.key; from = message.from; at = message.at } ∷ []
sources_told (Dumped copies) = sources_from copies.from copies.first copies.held.items
sources_told other = []

-- what the journals' merges name once a delivery of such an answer to a vnode was replied: one more there, where it was merged
abbrev pub sources_delivered : List Source → ℕ → Reply → List (List Source) → List (List Source)
sources_delivered told vnode (Changed changed) all = slice_set all vnode (slice_index_or all vnode [] ++ told)
sources_delivered told vnode other all = all

-- the same of a load of such answers: the vnode's journal begins with a merge of each, and the one that it had stands behind the others
abbrev pub sources_loaded : List Source → ℕ → Reply → List (List Source) → List (List Source)
sources_loaded told vnode (Loaded count) all = slice_set all vnode told ++ slice_index_or all vnode [] ∷ []
sources_loaded told vnode other all = all

-- the same of any event, after these replies: no other makes a merge
abbrev pub sources_after : List Reply → Event → Reply → List (List Source) → List (List Source)
sources_after before (Deliver message vnode) reply all = sources_delivered (sources_told (slice_index_or before message Nothing)) vnode reply all
sources_after before (Load dump vnode incarnation) reply all = sources_loaded (sources_told (slice_index_or before dump Nothing)) vnode reply all
sources_after before other reply all = all

-- what they name once events were replied, one after another, after these replies
abbrev pub sources_run : List Reply → List Event → List Reply → List (List Source) → List (List Source)
sources_run before [] replies all = all
sources_run before (event ∷ events) [] all = all
sources_run before (event ∷ events) (reply ∷ replies) all = sources_run (before ++ reply ∷ []) events replies (sources_after before event reply all)

-- a journal goes on as another: it is of the same vnode, and begins with the entries of the first
abbrev pub IsFrontOf : Log → Log → Type 0
IsFrontOf log later = (rest : List Entry) × (later ≡ with_entries log rest)

-- Journals go on: the merges name these reads, and each journal still stands, whatever has become its place.
pub record GoOn (old new : List Log) (sources : List (List Source)) : Type 0 where
  pub named : sources_of new ≡ sources
  pub stand : (vnode : ℕ) → vnode < length old → (place : ℕ) × (place < length new) × IsFrontOf (log_at old vnode) (log_at new place)

-- Journals have gone on through a run of events: each merge names the read whose answer its delivery or load had.
abbrev pub GoOnBy : List Event → List Reply → List Log → List Log → Type 0
GoOnBy events replies old new = GoOn old new (sources_run [] events replies (sources_of old))
