-- Journals as one run of the world: all entries in the order of their stamps, each the event that it says.
use Rattle.std.specs.Prelude.{◌≡◌, ◌<◌, ◌==◌, if◌then◌else◌, ℕ, Bool, List, [], ◌∷◌, ◌++◌, length, map, slice_get, take, Some}
use Rattle.key_state.specs.declared.content.Key.{Key}
use Rattle.journal.specs.Entry.{Entry, Put, Merge, Read, Restart}
use Rattle.journal.specs.Journals.{MayFollow}
use Rattle.journal.specs.Logs.{Log}
use Rattle.world.specs.declared.event.Event.{Event}
use Rattle.world.specs.declared.event.Event.TheVariants as event
use Rattle.world.specs.declared.event.Seen.TheVariants.{Clock as Given}
use Rattle.world.specs.declared.event.Message.{Message}
use Rattle.world.specs.declared.event.Reply.{Reply}
use Rattle.world.specs.declared.event.Reply.TheVariants.{Stored, Sent, Changed, Restarted}
use Rattle.world.specs.Causality.{IsCausal}
use Rattle.world.specs.Happening.{Happens, Run}
use Rattle.world.specs.Knowledge.{Knowledge, opened, known_at}
use Rattle.world.specs.Represents.{Represents, ShowsAt, log_at}
use Rattle.audit_replay.specs.Beginnings.{ComeFirst, steps_behind}
use Rattle.audit_replay.specs.Order.{Step, IsInStampOrder}
use Rattle.audit_replay.specs.Turns.{EntryIn}

-- the identifiers of the vnodes
abbrev pub ids_of : List Log → List ℕ
ids_of logs = map (λ log. log.vnode) logs

-- the earlier step with this number is the read of the key at this place of the vnode with this identifier
abbrev pub IsSource : List Log → List Step → ℕ → Key → ℕ → ℕ → Type 0
IsSource logs before number key from at =
    (step : Step) × (slice_get before number ≡ Some step) × ((log_at logs step.vnode).vnode ≡ from) × (step.place ≡ at) × ((stamp : ℕ) × (step.entry ≡ Read stamp key))

-- The event and the reply that an entry is, after earlier steps and their replies: a put with its dot; the delivery of what the read that a merge
-- names answered; a read; a restart.
abbrev pub IsEventOf : List Log → List Step → List Reply → ℕ → Entry → Event → Reply → Type 0
IsEventOf logs before replies vnode (Put stamp key seen content dot) what reply = (what ≡ event.Put vnode key (Given seen) content) × (reply ≡ Stored dot)
IsEventOf logs before replies vnode (Merge stamp key from at state) what reply =
    (number : ℕ) × (message : Message) × IsSource logs before number key from at × (slice_get replies number ≡ Some (Sent message)) × (message.key ≡ key) × (message.from ≡ from) × (message.at ≡ at) × (message.state ≡ state)
    × (what ≡ event.Deliver number vnode) × ((changed : Bool) × (reply ≡ Changed changed))
IsEventOf logs before replies vnode (Read stamp key) what reply = (what ≡ event.Send vnode key) × ((message : Message) × (reply ≡ Sent message))
IsEventOf logs before replies vnode (Restart stamp) what reply = (what ≡ event.Restart vnode) × (reply ≡ Restarted)

-- from a beginning on these steps happened in the world one after another, each replied as its entry says
pub data Happened (begin : Knowledge) (logs : List Log) : List Step → List Reply → Knowledge → Type 0 where
  nothing : Happened begin logs [] [] begin
  one_more : (steps : List Step) (replies : List Reply) (old : Knowledge) (step : Step) (what : Event) (reply : Reply) (new : Knowledge)
      → Happened begin logs steps replies old → IsEventOf logs steps replies step.vnode step.entry what reply → Happens [] old what reply new
      → Happened begin logs (steps ++ step ∷ []) (replies ++ reply ∷ []) new

-- what was known when the step with this number was next
abbrev pub known_before : {begin : Knowledge} {logs : List Log} {steps : List Step} {replies : List Reply} {known : Knowledge} → Happened begin logs steps replies known → ℕ → Knowledge
known_before {begin} nothing number = begin
known_before (one_more steps replies old step what reply new before is happens) number = if number == length steps then old else known_before before number

-- This was known when a step of these journals was next: some journals had brought it. That of the step's vnode had the entries that stand before the step's
-- own now, and the step's entry may follow them.
pub record IsMoment (logs : List Log) (step : Step) (old : Knowledge) : Type 0 where
  pub entry : EntryIn logs step.vnode step.place step.entry
  pub now : List Log
  pub size : length now ≡ length logs
  pub represents : Represents now old
  pub front : log_at now step.vnode ≡ record { vnode = (log_at logs step.vnode).vnode; entries = take step.place (log_at logs step.vnode).entries }
  pub follows : MayFollow (log_at now step.vnode).vnode (log_at now step.vnode).entries step.entry

-- From a beginning on, to which the fronts of journals have led, the entries behind the fronts are a run of the world, in the order of the stamps of
-- all entries, of which none stands twice, and the fronts come first. So no write had seen its own identifier or a later put's, no
-- identifier of a key stands for two, and each journal leaves at each key the current ones of the writes that its vnode knows, and their context.
-- What was known before each step is what the journals brought up to it.
pub record IsInterleavingFrom (begin : Knowledge) (fronts : List ℕ) (logs : List Log) : Type 0 where
  pub order : List Step
  pub in_order : IsInStampOrder logs order
  pub first : ComeFirst fronts order
  pub replies : List Reply
  pub known : Knowledge
  pub happened : Happened begin logs (steps_behind fronts order) replies known
  pub moments : (number : ℕ) (step : Step) → slice_get (steps_behind fronts order) number ≡ Some step → IsMoment logs step (known_before happened number)
  pub events : List Event
  pub run : Run [] begin events replies known
  pub causal : IsCausal known.puts
  pub siblings : (vnode : ℕ) (key : Key) → vnode < length logs → ShowsAt (log_at logs vnode).entries key (known_at known vnode key)

-- All entries of all journals, in the order of their stamps, are a run of the world: nothing has happened before, and the fronts are empty.
abbrev pub IsInterleaving : List Log → Type 0
IsInterleaving logs = IsInterleavingFrom (opened (ids_of logs)) [] logs
