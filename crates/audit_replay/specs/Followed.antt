-- What was followed of some vnodes' journals: so many of their first entries, in the order of stamps, as a run of the world from where they began.
use Rattle.std.specs.Prelude.{◌≡◌, ◌<◌, ◌≤◌, ◌+◌, ◌⊎◌, ℕ, List, [], drop, length, take, slice_get, slice_index_or, Option, Some, None, MatchOption, Contains}
use Rattle.std.specs.List.Sorted.{IsPermutation}
use Rattle.key_state.specs.declared.content.Key.{Key}
use Rattle.key_state.specs.State.{State}
use Rattle.journal.specs.Entry.{Entry, Put, Read, Merge, Restart}
use Rattle.journal.specs.Logs.{Log}
use Rattle.journal.specs.Replay.{IsReplay}
use Rattle.journal.specs.Stamps.{stamp_of}
use Rattle.world.specs.declared.event.Message.{Message}
use Rattle.world.specs.Knowledge.{Knowledge}
use Rattle.world.specs.Represents.{AreDistinct, log_at}
use Rattle.world.specs.Running.{Begins}
use Rattle.audit_replay.specs.Beginnings.{AreFronts, AreWhole, ComeFirst, IsBehind, IsInFront, steps_behind}
use Rattle.audit_replay.specs.Faulty.{NoneFalls, NoneTwice}
use Rattle.audit_replay.specs.Interleaved.{ids_of}
use Rattle.audit_replay.specs.Runs.{HaveSources}
use Rattle.audit_replay.specs.Order.{Step, steps_of, Rise}
use Rattle.audit_replay.specs.Rerun.{IsSoFar}
use Rattle.audit_replay.specs.Turns.{EntryIn, count_at}
use Rattle.audit_replay.specs.declared.kept.Kept.{Kept}
use Rattle.audit_replay.specs.declared.kept.Kept.TheVariants as kept
use Rattle.audit_replay.specs.declared.kept.Recent.{Recent}
use Rattle.audit_replay.specs.Kept.{IsLeft, first_was}

-- what is kept at a place of the vnode with this index
abbrev pub kept_at : List (List Kept) → ℕ → ℕ → Option Kept
kept_at answers index place = slice_get (slice_index_or answers index []) place

-- an entry is a restart
abbrev pub IsRestart : Entry → Type 0
IsRestart (Restart stamp) = Unit {0}
IsRestart (Put stamp key seen content dot) = ⊥
IsRestart (Merge stamp key from at state) = ⊥
IsRestart (Read stamp key) = ⊥

-- the key of a put or of a merge
abbrev pub key_changed : Entry → Option Key
key_changed (Put stamp key seen content dot) = Some key
key_changed (Merge stamp key from at state) = Some key
key_changed (Read stamp key) = None
key_changed (Restart stamp) = None

-- a read at a place behind the front answered a state, and is a step that sent it
pub record IsReadKept (fronts : List ℕ) (logs : List Log) (steps : List Step) (messages : List (Option Message)) (index place : ℕ) (key : Key) : Type 0 where
  pub stamp : ℕ
  pub there : EntryIn logs index place (Read stamp key)
  pub state : State
  pub answer : IsReplay (take place (log_at logs index).entries) key state
  pub number : ℕ
  pub behind : IsBehind fronts index place
  pub step : slice_get steps number ≡ Some (record { vnode = index; place = place; entry = Read stamp key })
  pub sent : slice_get messages number ≡ Some (Some (record { key = key; from = (log_at logs index).vnode; at = place; state = state }))

-- there is a put or a merge of a key at a place behind the front, and this state was at the key before
abbrev pub IsWas : List ℕ → List Log → ℕ → ℕ → Key → State → Type 0
IsWas fronts logs index place key state = ((e : Entry) × EntryIn logs index place e × (key_changed e ≡ Some key)) × IsReplay (take place (log_at logs index).entries) key state × IsBehind fronts index place

-- there is a restart at a place, or an entry of the front
abbrev pub IsOther : List ℕ → List Log → ℕ → ℕ → Type 0
IsOther fronts logs index place = (e : Entry) × EntryIn logs index place e × (IsRestart e ⊎ (place < count_at fronts index))

-- what is kept at a place is so
abbrev pub IsKept : List ℕ → List Log → List Step → List (Option Message) → ℕ → ℕ → Kept → Type 0
IsKept fronts logs steps messages index place (kept.Read key) = IsReadKept fronts logs steps messages index place key
IsKept fronts logs steps messages index place (kept.Was key state) = IsWas fronts logs index place key state
IsKept fronts logs steps messages index place kept.Other = IsOther fronts logs index place
IsKept fronts logs steps messages index place kept.GivenUp = Unit {0}

-- what there is of an entry: of a read behind the front its key, of a put or a merge behind the front its key and the state that it replaced
abbrev pub IsAnswer : List ℕ → List Log → ℕ → ℕ → Kept → Type 0
IsAnswer fronts logs index place (kept.Read key) = ((stamp : ℕ) × EntryIn logs index place (Read stamp key)) × IsBehind fronts index place
IsAnswer fronts logs index place (kept.Was key state) = IsWas fronts logs index place key state
IsAnswer fronts logs index place kept.Other = IsOther fronts logs index place
IsAnswer fronts logs index place kept.GivenUp = ⊥

-- what there is of all entries of the vnode with this index
pub record AreAnswers (fronts : List ℕ) (logs : List Log) (index : ℕ) (all : List Kept) : Type 0 where
  pub size : length all ≡ length (log_at logs index).entries
  pub each : (place : ℕ) (what : Kept) → slice_get all place ≡ Some what → IsAnswer fronts logs index place what

-- what is kept of each entry that was followed: of what there is of those of each vnode that is left which is recent
pub record AreKept (fronts : List ℕ) (logs : List Log) (steps : List Step) (messages : List (Option Message)) (recent : Recent) (answers : List (List Kept)) : Type 0 where
  pub size : length answers ≡ length logs
  pub lengths : (index : ℕ) → index < length logs → length (slice_index_or answers index []) ≡ length (log_at logs index).entries
  pub each : (index place : ℕ) (what : Kept) → index < length logs → kept_at answers index place ≡ Some what → IsKept fronts logs steps messages index place what
  pub left : (index : ℕ) → index < length logs → (all : List Kept) × AreAnswers fronts logs index all × IsLeft recent all (slice_index_or answers index [])

-- no stamp of these steps is above the last one
abbrev pub AreBelow : Option ℕ → List Step → Type 0
AreBelow last order = MatchOption last (order ≡ []) (λ stamp. (s : Step) → Contains order s → stamp_of s.entry ≤ stamp)

-- only fronts are here yet, and no step
pub record AreFrontsAlone (fronts : List ℕ) (logs : List Log) (steps : List Step) (messages : List (Option Message)) : Type 0 where
  pub short : (index : ℕ) → index < length logs → length (log_at logs index).entries ≤ count_at fronts index
  pub none : steps ≡ []
  pub unsent : messages ≡ []

-- These entries happened, each of those behind the fronts the event that it says, in the order of their stamps, up to the last one, from each beginning that led
-- to the fronts; and of the recent ones it is kept what tells what reads answered. No step is taken before the fronts are whole.
pub record HasFollowed (fronts : List ℕ) (logs : List Log) (last : Option ℕ) (recent : Recent) (answers : List (List Kept)) : Type 0 where
  pub order : List Step
  pub messages : List (Option Message)
  pub so_far : (begin : Knowledge) (begun : List Log) → AreFronts logs fronts begun → Begins begun [] begin → IsSoFar begin logs (steps_behind fronts order) logs messages
  pub begun : AreFrontsAlone fronts logs (steps_behind fronts order) messages ⊎ AreWhole fronts logs
  pub long : length messages ≡ length (steps_behind fronts order)
  pub distinct : AreDistinct (ids_of logs)
  pub first : ComeFirst fronts order
  pub all : IsPermutation (steps_of 0 logs) order
  pub rising : Rise 0 order
  pub below : AreBelow last order
  pub kept : AreKept fronts logs (steps_behind fronts order) messages recent answers
  pub rises : NoneFalls logs
  pub single : NoneTwice logs
  pub sources : HaveSources fronts logs

-- a stamp is above the last one
abbrev pub IsAbove : Option ℕ → ℕ → Type 0
IsAbove last stamp = MatchOption last (Unit {0}) (λ before. before < stamp)

-- What a read of a key answered, which stands at a place of a vnode of whose entries this is kept: the state that was there before the first entry behind it that
-- changes the key, or, where none does, the one that all entries leave.
abbrev pub IsAnswerOf : Log → List Kept → ℕ → Key → State → Type 0
IsAnswerOf log list at key state = MatchOption (first_was (drop (at + 1) list) key) (IsReplay log.entries key state) (λ was. was ≡ state)

-- the same of the vnode with this index
abbrev pub IsAnswered : List Log → List (List Kept) → ℕ → ℕ → Key → State → Type 0
IsAnswered logs answers index at key state = IsAnswerOf (log_at logs index) (slice_index_or answers index []) at key state

-- a merge names a read of its key that is kept, which answered its state
abbrev pub IsSourceKept : List Log → List (List Kept) → Key → ℕ → ℕ → State → Type 0
IsSourceKept logs answers key from at state = (index : ℕ) × (index < length logs) × ((log_at logs index).vnode ≡ from) × (kept_at answers index at ≡ Some (kept.Read key)) × IsAnswered logs answers index at key state

-- an entry that is a merge has its source
abbrev pub HasSource : List Log → List (List Kept) → Entry → Type 0
HasSource logs answers (Merge stamp key from at state) = IsSourceKept logs answers key from at state
HasSource logs answers (Put stamp key seen content dot) = Unit {0}
HasSource logs answers (Read stamp key) = Unit {0}
HasSource logs answers (Restart stamp) = Unit {0}

-- an entry may be the next one of the vnode with this index: it is of its front, or the fronts are whole and it has its source
abbrev pub IsExpected : List ℕ → List Log → List (List Kept) → ℕ → Entry → Type 0
IsExpected fronts logs answers index e = IsInFront fronts logs index ⊎ (AreWhole fronts logs × HasSource logs answers e)

-- what is to be kept of an entry that is behind its front and follows these
abbrev pub IsToKeep : List Entry → Entry → Kept → Type 0
IsToKeep before e (kept.Read key) = (stamp : ℕ) × (e ≡ Read stamp key)
IsToKeep before e (kept.Was key state) = (key_changed e ≡ Some key) × IsReplay before key state
IsToKeep before e kept.Other = IsRestart e
IsToKeep before e kept.GivenUp = ⊥

-- what is to be kept of an entry that is the next one of the vnode with this index: of one of its front nothing
abbrev pub IsNextKept : List ℕ → List Log → ℕ → Entry → Kept → Type 0
IsNextKept fronts logs index e new = (IsInFront fronts logs index × (new ≡ kept.Other)) ⊎ (IsBehind fronts index (length (log_at logs index).entries) × IsToKeep (log_at logs index).entries e new)
