-- Runs of the code: which events may be run, what is kept of those that were, and what then holds.
use Rattle.std.specs.Prelude.{◌≡◌, ℕ, ◌+◌, ◌^◌, ◌<◌, ◌≤◌, ◌⊎◌, Bool, true, false, List, [], ◌∷◌, length, take, map, count_by, slice_get, Contains, Option, Some}
use Rattle.std.specs.List.{AllZip}
use Rattle.vnode.specs.declared.steps.Copied.{Copied as Held}
use Rattle.world.specs.declared.event.Copies.{Copies}
use Rattle.dvv.specs.declared.Dot.{Dot}
use Rattle.bpf_helpers.specs.declared.sig.Entry.{Entry}
use Rattle.bpf_verifier.specs.Program.{Program}
use Rattle.key_state.specs.declared.content.Content.{Content}
use Rattle.key_state.specs.declared.content.Key.{Key}
use Rattle.key_state.specs.declared.content.Sibling.{Sibling}
use Rattle.key_state.specs.Known.{Write}
use Rattle.key_state.specs.State.{State}
use Rattle.key_state.specs.Parts.{Summarized as Summary, summary_of}
use Rattle.journal.specs.Logs.{Log}
use Rattle.journal.specs.Replay.{IsReplay}
use Rattle.world.specs.declared.event.Event.{Event}
use Rattle.world.specs.declared.event.Event.TheVariants.{Put, Get, Summarize, Send, SendPart, Deliver, Restart, Dump, Load, ResolveRead, ResolveWrite}
use Rattle.world.specs.declared.event.Seen.{Seen}
use Rattle.world.specs.declared.event.Seen.TheVariants.{Clock as Given, Get as ContextOf}
use Rattle.world.specs.declared.event.Message.{Message}
use Rattle.world.specs.declared.event.PartMessage.{PartMessage}
use Rattle.vnode.specs.declared.fault.VnodeFault.{VnodeFault}
use Rattle.hook_run.specs.declared.resolving.Resolution.{Resolution}
use Rattle.world.specs.declared.event.Reply.{Reply}
use Rattle.world.specs.declared.event.Reply.TheVariants.{Stored, Found, Summarized, Sent, SentPart, Changed, Missing, Restarted, Dumped, Loaded, Resolved, Nothing, Refused}
use Rattle.world.specs.Causality.{IsCausal}
use Rattle.world.specs.Happening.{Run, IsNewId}
use Rattle.world.specs.Knowledge.{Knowledge, Copy, Left, Copied, Parted, CopiedAll, Chosen, Failed, start, left_by, id_under, known_at, IsContext, IsStateOf, IsPartOf}
use Rattle.hook_run.specs.Resolving.{chosen_by}
use Rattle.world.specs.Resolving.{MayRun}
use Rattle.world.specs.Appending.{AreCopies}
use Rattle.world.specs.Represents.{ShowsAt, Represents, log_at}
use Rattle.world.specs.Stamped.{AreStamped, entries_of}

-- the vnodes' journals and the replies
pub record Ran : Type 0 where
  pub logs : List Log
  pub replies : List Reply

-- the most vnodes: an index has 16 bits of an identifier
abbrev pub max_vnodes : ℕ
max_vnodes = 65536

-- the event at a place is a get
abbrev pub IsGetAt : List Event → ℕ → Type 0
IsGetAt events place = (vnode : ℕ) × (key : Key) × (slice_get events place ≡ Some (Get vnode key))

-- the event at a place is a summary
abbrev pub IsSummaryAt : List Event → ℕ → Type 0
IsSummaryAt events place = (vnode : ℕ) × (key : Key) × (slice_get events place ≡ Some (Summarize vnode key))

-- the event at a place is a send
abbrev pub IsSendAt : List Event → ℕ → Type 0
IsSendAt events place = (vnode : ℕ) × (key : Key) × (slice_get events place ≡ Some (Send vnode key))

-- the event at a place is a send of a part
abbrev pub IsPartAt : List Event → ℕ → Type 0
IsPartAt events place = (vnode : ℕ) × (key : Key) × (summary : ℕ) × (slice_get events place ≡ Some (SendPart vnode key summary))

-- the event at a place is a send, of all or of a part
abbrev pub IsMessageAt : List Event → ℕ → Type 0
IsMessageAt events place = IsSendAt events place ⊎ IsPartAt events place

-- the event at a place is a resolver's run
abbrev pub IsRunAt : List Event → ℕ → Type 0
IsRunAt events place = (get : ℕ) × (hook : Program) × (slice_get events place ≡ Some (ResolveRead get hook))

-- the event at a place is a dump
abbrev pub IsDumpAt : List Event → ℕ → Type 0
IsDumpAt events place = (vnode : ℕ) × (slice_get events place ≡ Some (Dump vnode))

-- an incarnation is in use at an index: from the start on, or by a load
abbrev pub IsUsed : List ℕ → List Event → ℕ → ℕ → Type 0
IsUsed used events vnode incarnation = Contains used incarnation ⊎ ((place dump : ℕ) × (slice_get events place ≡ Some (Load dump vnode incarnation)))

-- what a put had seen is a clock, or an earlier get's context
abbrev pub IsEarlierContext : List Event → Seen → Type 0
IsEarlierContext before (Given clock) = Unit {0}
IsEarlierContext before (ContextOf get) = IsGetAt before get

-- an event may come after these: its vnode exists, what it names is an earlier get, summary, send, dump or run, an incarnation was not in use at its index, and what
-- is to be run may run as a resolver
abbrev pub MayComeFrom : List ℕ → ℕ → List Entry → List Event → Event → Type 0
MayComeFrom used vnodes listed before (Put vnode key seen content) = (vnode < vnodes) × IsEarlierContext before seen
MayComeFrom used vnodes listed before (Get vnode key) = vnode < vnodes
MayComeFrom used vnodes listed before (Summarize vnode key) = vnode < vnodes
MayComeFrom used vnodes listed before (Send vnode key) = vnode < vnodes
MayComeFrom used vnodes listed before (SendPart vnode key summary) = (vnode < vnodes) × IsSummaryAt before summary
MayComeFrom used vnodes listed before (Deliver message vnode) = (vnode < vnodes) × IsMessageAt before message
MayComeFrom used vnodes listed before (Restart vnode) = vnode < vnodes
MayComeFrom used vnodes listed before (Dump vnode) = vnode < vnodes
MayComeFrom used vnodes listed before (Load dump vnode incarnation) = (vnode < vnodes) × IsDumpAt before dump × (IsUsed used before vnode incarnation → ⊥)
MayComeFrom used vnodes listed before (ResolveRead get hook) = IsGetAt before get × MayRun listed hook
MayComeFrom used vnodes listed before (ResolveWrite run vnode) = (vnode < vnodes) × IsRunAt before run

-- each event may come after those before it, where these incarnations were in use before
abbrev pub AreRunnableFrom : List ℕ → ℕ → List Entry → List Event → Type 0
AreRunnableFrom used vnodes listed events = (place : ℕ) (event : Event) → slice_get events place ≡ Some event → MayComeFrom used vnodes listed (take place events) event

-- the same, where vnodes begin under incarnation 0
abbrev pub MayCome : ℕ → List Entry → List Event → Event → Type 0
MayCome vnodes listed before event = MayComeFrom (0 ∷ []) vnodes listed before event

abbrev pub AreRunnable : ℕ → List Entry → List Event → Type 0
AreRunnable vnodes listed events = AreRunnableFrom (0 ∷ []) vnodes listed events

-- states show copied writes, each under its key
abbrev pub ShowCopies : List Copy → List Held → Type 0
ShowCopies copies held = AllZip (λ copy one. (one.key ≡ copy.key) × IsStateOf copy.writes one.state) copies held

-- a summary tells of a state that shows some writes
abbrev pub IsSummaryOf : List Write → Summary → Type 0
IsSummaryOf writes summary = (state : State) × IsStateOf writes state × (summary ≡ summary_of state)

-- a reply holds what its event left
abbrev pub Holds : Reply → Left → Type 0
Holds (Found state) left = (key : Key) × (writes : List Write) × (left ≡ Copied key writes) × IsStateOf writes state
Holds (Summarized summary) left = (key : Key) × (writes : List Write) × (left ≡ Copied key writes) × IsSummaryOf writes summary
Holds (Sent message) left = (writes : List Write) × (left ≡ Copied message.key writes) × IsStateOf writes message.state
Holds (SentPart message) left = (writes held : List Write) × (left ≡ Parted message.key writes held) × IsPartOf writes held message.part
Holds (Refused refusal) left = left ≡ Failed refusal
Holds (Stored dot) left = Unit {0}
Holds (Changed changed) left = Unit {0}
Holds Missing left = Unit {0}
Holds Restarted left = Unit {0}
Holds (Dumped copies) left = (all : List Copy) × (left ≡ CopiedAll all) × ShowCopies all copies.held.items
Holds (Loaded count) left = Unit {0}
Holds (Resolved resolution) left = Unit {0}
Holds Nothing left = Unit {0}

-- the replies hold what the events left
pub record Remember (replies : List Reply) (world : Knowledge) : Type 0 where
  pub len : length replies ≡ length world.left
  pub each : (place : ℕ) (reply : Reply) → slice_get replies place ≡ Some reply → Holds reply (left_by world place)

-- a run's reply tells what it chose among the writes that its get answered
abbrev pub ChoseAt : Knowledge → ℕ → ℕ → Resolution → Type 0
ChoseAt world run get resolution = (key : Key) × (writes : List Write) × (state : State) × (left_by world get ≡ Copied key writes) × IsStateOf writes state
    × (left_by world run ≡ Chosen key writes (chosen_by resolution state.siblings))

-- the events and the replies tell what a run chose: the key that its get named, and what was decided on that get's answer
pub record Recall (events : List Event) (replies : List Reply) (world : Knowledge) : Type 0 where
  pub keys : (place vnode : ℕ) (key other : Key) (writes : List Write) → slice_get events place ≡ Some (Get vnode key) → left_by world place ≡ Copied other writes → other ≡ key
  pub chosen : (place get : ℕ) (hook : Program) (resolution : Resolution) → slice_get events place ≡ Some (ResolveRead get hook) → slice_get replies place ≡ Some (Resolved resolution) → ChoseAt world place get resolution

-- the reply is a get's, or a refusal
abbrev pub IsFoundOrRefused : Reply → Type 0
IsFoundOrRefused (Found state) = Unit {0}
IsFoundOrRefused (Refused refusal) = Unit {0}
IsFoundOrRefused (Stored dot) = ⊥
IsFoundOrRefused (Summarized summary) = ⊥
IsFoundOrRefused (Sent message) = ⊥
IsFoundOrRefused (SentPart message) = ⊥
IsFoundOrRefused (Changed changed) = ⊥
IsFoundOrRefused Missing = ⊥
IsFoundOrRefused Restarted = ⊥
IsFoundOrRefused (Dumped copies) = ⊥
IsFoundOrRefused (Loaded count) = ⊥
IsFoundOrRefused (Resolved resolution) = ⊥
IsFoundOrRefused Nothing = ⊥

-- the reply is a summary's, or a refusal
abbrev pub IsSummarizedOrRefused : Reply → Type 0
IsSummarizedOrRefused (Summarized summary) = Unit {0}
IsSummarizedOrRefused (Refused refusal) = Unit {0}
IsSummarizedOrRefused (Stored dot) = ⊥
IsSummarizedOrRefused (Found state) = ⊥
IsSummarizedOrRefused (Sent message) = ⊥
IsSummarizedOrRefused (SentPart message) = ⊥
IsSummarizedOrRefused (Changed changed) = ⊥
IsSummarizedOrRefused Missing = ⊥
IsSummarizedOrRefused Restarted = ⊥
IsSummarizedOrRefused (Dumped copies) = ⊥
IsSummarizedOrRefused (Loaded count) = ⊥
IsSummarizedOrRefused (Resolved resolution) = ⊥
IsSummarizedOrRefused Nothing = ⊥

-- the reply is a send's, or a refusal
abbrev pub IsSentOrRefused : Reply → Type 0
IsSentOrRefused (Sent message) = Unit {0}
IsSentOrRefused (Refused refusal) = Unit {0}
IsSentOrRefused (Stored dot) = ⊥
IsSentOrRefused (Found state) = ⊥
IsSentOrRefused (Summarized summary) = ⊥
IsSentOrRefused (SentPart message) = ⊥
IsSentOrRefused (Changed changed) = ⊥
IsSentOrRefused Missing = ⊥
IsSentOrRefused Restarted = ⊥
IsSentOrRefused (Dumped copies) = ⊥
IsSentOrRefused (Loaded count) = ⊥
IsSentOrRefused (Resolved resolution) = ⊥
IsSentOrRefused Nothing = ⊥

-- the reply is a send's, of all or of a part, or a refusal
abbrev pub IsMessageOrRefused : Reply → Type 0
IsMessageOrRefused (Sent message) = Unit {0}
IsMessageOrRefused (SentPart message) = Unit {0}
IsMessageOrRefused (Refused refusal) = Unit {0}
IsMessageOrRefused (Stored dot) = ⊥
IsMessageOrRefused (Found state) = ⊥
IsMessageOrRefused (Summarized summary) = ⊥
IsMessageOrRefused (Changed changed) = ⊥
IsMessageOrRefused Missing = ⊥
IsMessageOrRefused Restarted = ⊥
IsMessageOrRefused (Dumped copies) = ⊥
IsMessageOrRefused (Loaded count) = ⊥
IsMessageOrRefused (Resolved resolution) = ⊥
IsMessageOrRefused Nothing = ⊥

-- the reply is a run's, or a refusal
abbrev pub IsResolvedOrRefused : Reply → Type 0
IsResolvedOrRefused (Resolved resolution) = Unit {0}
IsResolvedOrRefused (Refused refusal) = Unit {0}
IsResolvedOrRefused (Stored dot) = ⊥
IsResolvedOrRefused (Found state) = ⊥
IsResolvedOrRefused (Summarized summary) = ⊥
IsResolvedOrRefused (Sent message) = ⊥
IsResolvedOrRefused (SentPart message) = ⊥
IsResolvedOrRefused (Changed changed) = ⊥
IsResolvedOrRefused Missing = ⊥
IsResolvedOrRefused Restarted = ⊥
IsResolvedOrRefused (Dumped copies) = ⊥
IsResolvedOrRefused (Loaded count) = ⊥
IsResolvedOrRefused Nothing = ⊥

-- the reply is a dump's, of rising keys, or a refusal
abbrev pub IsDumpedOrRefused : Reply → Type 0
IsDumpedOrRefused (Dumped copies) = AreCopies copies
IsDumpedOrRefused (Refused refusal) = Unit {0}
IsDumpedOrRefused (Stored dot) = ⊥
IsDumpedOrRefused (Found state) = ⊥
IsDumpedOrRefused (Summarized summary) = ⊥
IsDumpedOrRefused (Sent message) = ⊥
IsDumpedOrRefused (SentPart message) = ⊥
IsDumpedOrRefused (Changed changed) = ⊥
IsDumpedOrRefused Missing = ⊥
IsDumpedOrRefused Restarted = ⊥
IsDumpedOrRefused (Loaded count) = ⊥
IsDumpedOrRefused (Resolved resolution) = ⊥
IsDumpedOrRefused Nothing = ⊥

-- an event may have this reply
abbrev pub MayReply : Event → Reply → Type 0
MayReply (Get vnode key) reply = IsFoundOrRefused reply
MayReply (Summarize vnode key) reply = IsSummarizedOrRefused reply
MayReply (Send vnode key) reply = IsSentOrRefused reply
MayReply (SendPart vnode key summary) reply = IsMessageOrRefused reply
MayReply (Put vnode key seen content) reply = Unit {0}
MayReply (Deliver message vnode) reply = Unit {0}
MayReply (Restart vnode) reply = Unit {0}
MayReply (Dump vnode) reply = IsDumpedOrRefused reply
MayReply (Load dump vnode incarnation) reply = Unit {0}
MayReply (ResolveRead get hook) reply = IsResolvedOrRefused reply
MayReply (ResolveWrite run vnode) reply = Unit {0}

-- the reply at a place has a property
abbrev pub ReplyAt : List Reply → ℕ → (Reply → Type 0) → Type 0
ReplyAt replies place P = (reply : Reply) × (slice_get replies place ≡ Some reply) × P reply

-- what a put had seen is a clock, or stands in a reply
abbrev pub IsReadyContext : List Reply → Seen → Type 0
IsReadyContext replies (Given clock) = Unit {0}
IsReadyContext replies (ContextOf get) = ReplyAt replies get IsFoundOrRefused

-- a run's event and reply are there, and those of the get that it names
pub record IsReadyRun (events : List Event) (replies : List Reply) (run : ℕ) : Type 0 where
  pub event : IsRunAt events run
  pub reply : ReplyAt replies run IsResolvedOrRefused
  pub asked : (get : ℕ) (hook : Program) → slice_get events run ≡ Some (ResolveRead get hook) → IsGetAt events get
  pub answered : (get : ℕ) (hook : Program) → slice_get events run ≡ Some (ResolveRead get hook) → ReplyAt replies get IsFoundOrRefused

-- an event's vnode exists, what it names was replied, and what is to be run may run as a resolver
abbrev pub IsReady : ℕ → List Entry → List Event → List Reply → Event → Type 0
IsReady vnodes listed events replies (Put vnode key seen content) = (vnode < vnodes) × IsReadyContext replies seen
IsReady vnodes listed events replies (Get vnode key) = vnode < vnodes
IsReady vnodes listed events replies (Summarize vnode key) = vnode < vnodes
IsReady vnodes listed events replies (Send vnode key) = vnode < vnodes
IsReady vnodes listed events replies (SendPart vnode key summary) = (vnode < vnodes) × ReplyAt replies summary IsSummarizedOrRefused
IsReady vnodes listed events replies (Deliver message vnode) = (vnode < vnodes) × ReplyAt replies message IsMessageOrRefused
IsReady vnodes listed events replies (Restart vnode) = vnode < vnodes
IsReady vnodes listed events replies (Dump vnode) = vnode < vnodes
IsReady vnodes listed events replies (Load dump vnode incarnation) = (vnode < vnodes) × (vnode < max_vnodes) × ReplyAt replies dump IsDumpedOrRefused
IsReady vnodes listed events replies (ResolveRead get hook) = ReplyAt replies get IsFoundOrRefused × MayRun listed hook
IsReady vnodes listed events replies (ResolveWrite run vnode) = (vnode < vnodes) × IsReadyRun events replies run

-- an event that leaves the vnodes as many as they are
abbrev pub IsNoLoad : Event → Type 0
IsNoLoad (Put vnode key seen content) = Unit {0}
IsNoLoad (Get vnode key) = Unit {0}
IsNoLoad (Summarize vnode key) = Unit {0}
IsNoLoad (Send vnode key) = Unit {0}
IsNoLoad (SendPart vnode key summary) = Unit {0}
IsNoLoad (Deliver message vnode) = Unit {0}
IsNoLoad (Restart vnode) = Unit {0}
IsNoLoad (Dump vnode) = Unit {0}
IsNoLoad (Load dump vnode incarnation) = ⊥
IsNoLoad (ResolveRead get hook) = Unit {0}
IsNoLoad (ResolveWrite run vnode) = Unit {0}

-- a load's identifier is one that no vnode has or had
abbrev pub IsNewFor : Knowledge → Event → Type 0
IsNewFor world (Put vnode key seen content) = Unit {0}
IsNewFor world (Get vnode key) = Unit {0}
IsNewFor world (Summarize vnode key) = Unit {0}
IsNewFor world (Send vnode key) = Unit {0}
IsNewFor world (SendPart vnode key summary) = Unit {0}
IsNewFor world (Deliver message vnode) = Unit {0}
IsNewFor world (Restart vnode) = Unit {0}
IsNewFor world (Dump vnode) = Unit {0}
IsNewFor world (Load dump vnode incarnation) = IsNewId world (id_under incarnation vnode)
IsNewFor world (ResolveRead get hook) = Unit {0}
IsNewFor world (ResolveWrite run vnode) = Unit {0}

-- a send copied a message's writes
abbrev pub IsMessageOf : Knowledge → ℕ → Message → Type 0
IsMessageOf world place message = (writes : List Write) × (left_by world place ≡ Copied message.key writes) × IsStateOf writes message.state

-- a part was sent of a message's writes
abbrev pub IsPartMessageOf : Knowledge → ℕ → PartMessage → Type 0
IsPartMessageOf world place message = (writes held : List Write) × (left_by world place ≡ Parted message.key writes held) × IsPartOf writes held message.part

-- a context that is named was refused
abbrev pub IsRefusedContext : Knowledge → Seen → VnodeFault → Type 0
IsRefusedContext world (Given clock) refusal = ⊥
IsRefusedContext world (ContextOf get) refusal = left_by world get ≡ Failed refusal

-- a run left this to be put: a content, if any, under a key, and a clock that stands for the context of the writes that its get answered
abbrev pub IsChoiceOf : Knowledge → ℕ → Key → List Dot → Option Content → Type 0
IsChoiceOf world run key seen content = (writes : List Write) × (left_by world run ≡ Chosen key writes content) × IsContext writes seen

-- whether a reply is that of a load
abbrev pub is_loaded : Reply → Bool
is_loaded (Loaded count) = true
is_loaded (Stored dot) = false
is_loaded (Found state) = false
is_loaded (Summarized summary) = false
is_loaded (Sent message) = false
is_loaded (SentPart message) = false
is_loaded (Changed changed) = false
is_loaded Missing = false
is_loaded Restarted = false
is_loaded (Dumped copies) = false
is_loaded (Resolved resolution) = false
is_loaded Nothing = false
is_loaded (Refused refusal) = false

-- the loads from a place of a list on are of identifiers that no vnode has or had
abbrev pub AreNewFrom : Knowledge → List Event → ℕ → Type 0
AreNewFrom known events first = (place dump vnode incarnation : ℕ) → first ≤ place → slice_get events place ≡ Some (Load dump vnode incarnation) → IsNewId known (id_under incarnation vnode)

-- a beginning: its vnodes have these journals, no event is left that a later one may name, and no load of the events is of an identifier in use
pub record Begins (logs : List Log) (events : List Event) (begin : Knowledge) : Type 0 where
  pub represents : Represents logs begin
  pub ids : length begin.ids ≡ length logs
  pub nothing : begin.left ≡ []
  pub fresh : AreNewFrom begin events 0

-- what holds once so many events of a list were run and so many entries made, whatever the journals say. Dumps and loads are refused past 2^62 entries.
pub record IsRunSoFar (vnodes : ℕ) (all : List Event) (count : ℕ) (replies : List Reply) (logs : List Log) (made : ℕ) : Type 0 where
  pub len : length replies ≡ length (take count all)
  pub more : vnodes ≤ length logs
  pub stamped : AreStamped logs made
  pub few : made ≤ 2 ^ 63 + length replies
  pub named : (place get : ℕ) (hook : Program) → slice_get (take count all) place ≡ Some (ResolveRead get hook) → IsGetAt (take count all) get
  pub kinds : (place : ℕ) (event : Event) (reply : Reply) → slice_get (take count all) place ≡ Some event → slice_get replies place ≡ Some reply → MayReply event reply

-- what is known then, from a beginning
pub record IsKnownSoFar (begin : Knowledge) (vnodes : ℕ) (listed : List Entry) (all : List Event) (count : ℕ) (replies : List Reply) (logs : List Log) : Type 0 where
  pub known : Knowledge
  pub run : Run listed begin (take count all) replies known
  pub size : length logs ≡ vnodes + count_by is_loaded replies
  pub represents : Represents logs known
  pub ids : length known.ids ≡ length logs
  pub fresh : AreNewFrom known all count
  pub remember : Remember replies known
  pub recall : Recall (take count all) replies known

-- a state of a key was answered: a get found it, a send or a dump copied it, or a vnode, a closed one too, has it at the end
pub data IsAnswered (events : List Event) (ran : Ran) (key : Key) (state : State) : Type 0 where
  found : (place vnode : ℕ) → slice_get events place ≡ Some (Get vnode key) → slice_get ran.replies place ≡ Some (Found state) → IsAnswered events ran key state
  copied : (place : ℕ) (message : Message) → slice_get ran.replies place ≡ Some (Sent message) → message.key ≡ key → message.state ≡ state → IsAnswered events ran key state
  dumped : (place : ℕ) (copies : Copies) (one : Held) → slice_get ran.replies place ≡ Some (Dumped copies) → Contains copies.held.items one → one.key ≡ key → one.state ≡ state → IsAnswered events ran key state
  kept : (vnode : ℕ) → vnode < length ran.logs → IsReplay (log_at ran.logs vnode).entries key state → IsAnswered events ran key state

-- Siblings are the unseen writes: the replies are those of a run of the events from a beginning, the journals brought what is then known, and of this each vnode,
-- and each that a load has closed, shows at each key the current writes and their context. Stamps tell in what order all entries were made. Answered states are told
-- apart by dots and clocks. The journals of closed vnodes stand behind the others.
pub record IsWorldFrom (begin : Knowledge) (vnodes : ℕ) (listed : List Entry) (events : List Event) (ran : Ran) : Type 0 where
  pub known : Knowledge
  pub run : Run listed begin events ran.replies known
  pub size : length ran.logs ≡ vnodes + count_by is_loaded ran.replies
  pub represents : Represents ran.logs known
  pub stamped : AreStamped ran.logs (entries_of ran.logs)
  pub siblings : (vnode : ℕ) (key : Key) → vnode < length ran.logs → ShowsAt (log_at ran.logs vnode).entries key (known_at known vnode key)
  pub states : (vnode : ℕ) (key : Key) (state : State) → vnode < length ran.logs → IsReplay (log_at ran.logs vnode).entries key state → IsStateOf (known_at known vnode key) state
  pub causal : IsCausal known.puts
  pub told : (key : Key) (a b : State) → IsAnswered events ran key a → IsAnswered events ran key b → map (λ (s : Sibling). s.dot) a.siblings ≡ map (λ (s : Sibling). s.dot) b.siblings → a.clock ≡ b.clock → a ≡ b

-- the same, where nothing has happened at the beginning
abbrev pub IsWorldOf : ℕ → List Entry → List Event → Ran → Type 0
IsWorldOf vnodes listed events ran = IsWorldFrom (start vnodes) vnodes listed events ran
