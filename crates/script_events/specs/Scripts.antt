-- Scripts whose events can be run, and the lines that they were read from (this store's profile).
use Rattle.std.specs.Prelude.{◌≡◌, Option, None, Some, ℕ, ◌+◌, ◌-◌, ◌<◌, ◌≤◌, ◌==◌, Bool, true, false, if◌then◌else◌, ◌++◌, ◌∷◌, [], List, length, take, count_by}
use Rattle.bpf_helpers.specs.declared.sig.Entry.{Entry}
use Rattle.script_lines.specs.Lines.{lines_in, is_passed_over}
use Rattle.script_events.specs.declared.script.Script.{Script}
use Rattle.script_events.specs.declared.script.Answered.{Answered}
use Rattle.script_events.specs.declared.script.Answered.TheVariants as answered
use Rattle.world.specs.declared.event.Event.{Event}
use Rattle.world.specs.declared.event.Event.TheVariants.{Get, Summarize, Send, SendPart, Dump, ResolveRead}
use Rattle.script_events.specs.declared.names.Sort.{Sort}
use Rattle.script_events.specs.declared.names.Sort.TheVariants as sort
use Rattle.world.specs.Running.{AreRunnableFrom, IsGetAt, IsSummaryAt, IsMessageAt, IsDumpAt, IsRunAt}

-- a line tells of an event: it prints its reply, or what a hook says beside it
abbrev pub tells_event : Answered → Bool
tells_event answered.Reply = true
tells_event (answered.Checked check) = true
tells_event (answered.Refused fault) = false
tells_event (answered.NotLetIn refusal) = false
tells_event answered.Nothing = false

-- there are at most 255 vnodes, each event's vnode is one of them, what it names is an earlier get, summary, send, dump or run, no index had a load's incarnation
-- before, where these are in use from the start on, and a table of these helpers runs its hook; as many lines tell of an event as there are events
pub record IsRunnableFrom (used : List ℕ) (listed : List Entry) (script : Script) : Type 0 where
  pub few : script.vnodes ≤ 255
  pub events : AreRunnableFrom used script.vnodes listed script.events.items
  pub told : count_by tells_event script.answered.items ≡ length script.events.items

-- the same, where vnodes begin under incarnation 0
abbrev pub IsRunnable : List Entry → Script → Type 0
IsRunnable listed script = IsRunnableFrom (0 ∷ []) listed script

-- a script has one event more, and one line more that was read
pub record IsOneMore (old : Script) (event : Event) (line : Answered) (new : Script) : Type 0 where
  pub vnodes : new.vnodes ≡ old.vnodes
  pub events : new.events.items ≡ old.events.items ++ event ∷ []
  pub answered : new.answered.items ≡ old.answered.items ++ line ∷ []

-- ---- the lines that were read

-- how many lines a script was read from that ask for something: each prints, but for the one that tells how many vnodes there are
abbrev pub lines_of : Script → ℕ
lines_of script = length script.answered.items + (if script.vnodes == 0 then 0 else 1)

-- a line asks for something: it is neither empty nor a comment
abbrev pub asks : List ℕ → Bool
asks line = if is_passed_over line then false else true

-- a script was read from as many lines as ask for something among these
abbrev pub AnswersFor : Script → List (List ℕ) → Type 0
AnswersFor script lines = lines_of script ≡ count_by asks lines

-- a script was read from the lines before that of a number, counted from 1, which these bytes have
pub record AnswersUpTo (script : Script) (bytes : List ℕ) (number : ℕ) : Type 0 where
  pub counted : 0 < number
  pub stands : number ≤ length (lines_in bytes)
  pub answers : AnswersFor script (take (number - 1) (lines_in bytes))

-- the event at a place is of a sort
abbrev pub IsOfSort : Sort → List Event → ℕ → Type 0
IsOfSort sort.Get events place = IsGetAt events place
IsOfSort sort.Summary events place = IsSummaryAt events place
IsOfSort sort.Message events place = IsMessageAt events place
IsOfSort sort.Dump events place = IsDumpAt events place
IsOfSort sort.Run events place = IsRunAt events place
IsOfSort sort.Other events place = Unit {0}

-- what an event is, as far as names may ask for it
abbrev pub sort_of : Option Event → Sort
sort_of None = sort.Other
sort_of (Some (Get vnode key)) = sort.Get
sort_of (Some (Summarize vnode key)) = sort.Summary
sort_of (Some (Send vnode key)) = sort.Message
sort_of (Some (SendPart vnode key summary)) = sort.Message
sort_of (Some (Dump vnode)) = sort.Dump
sort_of (Some (ResolveRead get hook)) = sort.Run
sort_of (Some other) = sort.Other
