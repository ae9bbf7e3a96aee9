-- What an event may reply and lead to (Riak KV documentation: siblings and causal contexts; the limits are this store's profile).
use Rattle.std.specs.Prelude.{◌≡◌, ◌≢◌, ℕ, ◌+◌, ◌<◌, ◌≤◌, ◌↔◌, Contains, Bool, List, [], ◌∷◌, ◌++◌, length, MatchBool, Option, Some, None}
use Rattle.bpf_helpers.specs.declared.sig.Entry.{Entry}
use Rattle.bpf_verifier.specs.Program.{Program}
use Rattle.dvv.specs.declared.Dot.{Dot}
use Rattle.dvv.specs.Clock.{Covers, HasRoom, vnodes_together}
use Rattle.key_state.specs.declared.content.Content.{Content}
use Rattle.key_state.specs.declared.content.Key.{Key}
use Rattle.key_state.specs.State.{State, kept}
use Rattle.key_state.specs.Known.{Write, InContext, IsCurrent}
use Rattle.key_state.specs.Parts.{summary_of}
use Rattle.std.specs.List.{All}
use Rattle.vnode.specs.States.{keys_of}
use Rattle.world.specs.declared.event.Copies.{Copies}
use Rattle.std.specs.List.Sorted.{IsStrictlySortedBy}
use Rattle.journal.specs.Keys.{key_cmp}
use Rattle.journal.specs.Logs.{max_entries}
use Rattle.world.specs.declared.event.Event.{Event}
use Rattle.world.specs.declared.event.Event.TheVariants.{Put, Get, Summarize, Send, SendPart, Deliver, Restart, Dump, Load, ResolveRead, ResolveWrite}
use Rattle.world.specs.declared.event.Message.{Message}
use Rattle.world.specs.declared.event.PartMessage.{PartMessage}
use Rattle.hook_run.specs.declared.resolving.Resolution.{Resolution}
use Rattle.world.specs.declared.event.Seen.{Seen}
use Rattle.world.specs.declared.event.Seen.TheVariants.{Clock as Given, Get as ContextOf}
use Rattle.vnode.specs.declared.fault.VnodeFault.{VnodeFault}
use Rattle.vnode.specs.declared.fault.VnodeFault.TheVariants.{ContextAhead, TooManySiblings, ClockFull, MergedClockFull, JournalFull, NoMemory}
use Rattle.world.specs.declared.event.Reply.{Reply}
use Rattle.world.specs.declared.event.Reply.TheVariants.{Stored, Found, Summarized, Sent, SentPart, Changed, Missing, Restarted, Dumped, Loaded, Resolved, Nothing, Refused}
use Rattle.world.specs.Knowledge.{Knowledge, KeyedWrite, Copy, Copied, Parted, CopiedAll, Chosen, Failed, left_by, known_at, id_of, accepted_at, IsContext, IsStateOf, IsPartOf, write_of, next_dot, after_refusal, after_put, after_copy, after_part, after_delivery, after_restart, after_dump, after_load, after_run, after_nothing, id_under}
use Rattle.hook_run.specs.Resolving.{IsResolution, chosen_by}

-- the earlier event that an event names, by its place
abbrev pub named : Event → Option ℕ
named (Put vnode key (ContextOf get) content) = Some get
named (Put vnode key (Given clock) content) = None
named (Get vnode key) = None
named (Summarize vnode key) = None
named (Send vnode key) = None
named (SendPart vnode key summary) = Some summary
named (Deliver message vnode) = Some message
named (Restart vnode) = None
named (Dump vnode) = None
named (Load dump vnode incarnation) = Some dump
named (ResolveRead get hook) = Some get
named (ResolveWrite run vnode) = Some run

-- the events that a put had seen: those of a given clock, or the context that a get answered
abbrev pub Means : Knowledge → Seen → List Dot → Type 0
Means world (Given clock) seen = seen ≡ clock
Means world (ContextOf get) seen = (key : Key) × (writes : List Write) × (left_by world get ≡ Copied key writes) × IsContext writes seen

-- what a put had seen is known at its vnode
abbrev pub IsKnown : List Write → List Dot → Type 0
IsKnown known seen = (dot : Dot) → Covers seen dot → InContext known dot

-- so many of the current writes had a put not seen
abbrev pub Keeps : List Write → List Dot → ℕ → Type 0
Keeps known seen count = (state : State) × IsStateOf known state × (length (kept seen state.siblings) ≡ count)

-- the clock of some writes takes one identifier more within its limits
abbrev pub TakesOneMore : List Write → Dot → Type 0
TakesOneMore known dot = (clock : List Dot) × IsContext known clock × HasRoom clock dot

-- the clock of some writes would pass its limits by this identifier
abbrev pub IsFullFor : List Write → Dot → Type 0
IsFullFor known dot = (clock : List Dot) × IsContext known clock × (HasRoom clock dot → ⊥)

-- a vnode's journal takes one event more
abbrev pub HasPlace : Knowledge → ℕ → Type 0
HasPlace world vnode = accepted_at world vnode < max_entries

-- a vnode's journal is full
abbrev pub IsFull : Knowledge → ℕ → Type 0
IsFull world vnode = accepted_at world vnode ≡ max_entries

-- nothing stands against a put that had seen the events of a clock
pub record MayPut (world : Knowledge) (vnode : ℕ) (key : Key) (seen : List Dot) : Type 0 where
  pub context : IsKnown (known_at world vnode key) seen
  pub siblings : (count : ℕ) × Keeps (known_at world vnode key) seen count × (count < 64)
  pub clock : TakesOneMore (known_at world vnode key) (next_dot world vnode key)
  pub journal : HasPlace world vnode

-- why such a put is refused: the first of these that stands against it
abbrev pub RefusesPut : Knowledge → ℕ → Key → List Dot → VnodeFault → Type 0
RefusesPut world vnode key seen ContextAhead = IsKnown (known_at world vnode key) seen → ⊥
RefusesPut world vnode key seen TooManySiblings =
    IsKnown (known_at world vnode key) seen × ((count : ℕ) × Keeps (known_at world vnode key) seen count × (64 ≤ count))
RefusesPut world vnode key seen ClockFull =
    IsKnown (known_at world vnode key) seen × ((count : ℕ) × Keeps (known_at world vnode key) seen count × (count < 64))
    × IsFullFor (known_at world vnode key) (next_dot world vnode key)
RefusesPut world vnode key seen JournalFull =
    IsKnown (known_at world vnode key) seen × ((count : ℕ) × Keeps (known_at world vnode key) seen count × (count < 64))
    × TakesOneMore (known_at world vnode key) (next_dot world vnode key) × IsFull world vnode
RefusesPut world vnode key seen MergedClockFull = ⊥
RefusesPut world vnode key seen NoMemory = ⊥

-- a dot is that of a current write
abbrev pub HasCurrent : List Write → Dot → Type 0
HasCurrent known dot = (write : Write) × IsCurrent known write × (write.dot ≡ dot)

-- a part leaves the content of a dot out: that of a current write whose dot is also that of a current write of one who told what it held
abbrev pub IsLeftOut : List Write → List Write → Dot → Type 0
IsLeftOut writes held dot = HasCurrent writes dot × HasCurrent held dot

-- each dot whose content was left out of a part is that of a current write of those that are known
abbrev pub HoldsLeftOut : List Write → List Write → List Write → Type 0
HoldsLeftOut known writes held = (dot : Dot) → IsLeftOut writes held dot → HasCurrent known dot

-- some dot whose content was left out of a part is that of no current write of those that are known
abbrev pub LacksLeftOut : List Write → List Write → List Write → Type 0
LacksLeftOut known writes held = (dot : Dot) × IsLeftOut writes held dot × (HasCurrent known dot → ⊥)

-- an event's message brings some writes of a key to a vnode: those that a send copied, or those of a part whose left out contents are all held there
pub data IsBrought (world : Knowledge) (message vnode : ℕ) (key : Key) (writes : List Write) : Type 0 where
  whole : left_by world message ≡ Copied key writes → IsBrought world message vnode key writes
  part : (held : List Write) → left_by world message ≡ Parted key writes held → HoldsLeftOut (known_at world vnode key) writes held → IsBrought world message vnode key writes

-- how many vnodes the clocks of two sets of writes count together
abbrev pub CountTogether : List Write → List Write → ℕ → Type 0
CountTogether mine theirs count = (own other : List Dot) × IsContext mine own × IsContext theirs other × (vnodes_together own other ≡ count)

-- nothing stands against a delivery of some writes
pub record MayDeliver (world : Knowledge) (vnode : ℕ) (key : Key) (writes : List Write) : Type 0 where
  pub clock : (count : ℕ) × CountTogether (known_at world vnode key) writes count × (count ≤ 1024)
  pub journal : HasPlace world vnode

-- why a delivery of some writes is refused
abbrev pub RefusesDelivery : Knowledge → ℕ → Key → List Write → VnodeFault → Type 0
RefusesDelivery world vnode key writes MergedClockFull = (count : ℕ) × CountTogether (known_at world vnode key) writes count × (1024 < count)
RefusesDelivery world vnode key writes JournalFull = (count : ℕ) × CountTogether (known_at world vnode key) writes count × (count ≤ 1024) × IsFull world vnode
RefusesDelivery world vnode key writes ContextAhead = ⊥
RefusesDelivery world vnode key writes TooManySiblings = ⊥
RefusesDelivery world vnode key writes ClockFull = ⊥
RefusesDelivery world vnode key writes NoMemory = ⊥

-- two sets of writes have the same current ones and the same context
pub record LookAlike (a b : List Write) : Type 0 where
  pub current : (write : Write) → IsCurrent a write ↔ IsCurrent b write
  pub context : (dot : Dot) → InContext a dot ↔ InContext b dot

-- what a send copies: the key's state, and the place of the entry that copied it
pub record Carries (world : Knowledge) (vnode : ℕ) (key : Key) (message : Message) : Type 0 where
  pub key_is : message.key ≡ key
  pub from_is : message.from ≡ id_of world vnode
  pub at_is : message.at ≡ accepted_at world vnode
  pub state_is : IsStateOf (known_at world vnode key) message.state

-- what a part copies: the part of the key's state for one who held some writes, and the place of the entry that copied it
pub record CarriesPart (world : Knowledge) (vnode : ℕ) (key : Key) (held : List Write) (message : PartMessage) : Type 0 where
  pub key_is : message.key ≡ key
  pub from_is : message.from ≡ id_of world vnode
  pub at_is : message.at ≡ accepted_at world vnode
  pub part_is : IsPartOf (known_at world vnode key) held message.part

-- what a dump copies: the state of each of these keys, by an entry each, from the vnode's next one on
pub record CarriesAll (world : Knowledge) (vnode : ℕ) (keys : List Key) (copies : Copies) : Type 0 where
  pub from_is : copies.from ≡ id_of world vnode
  pub first_is : copies.first ≡ accepted_at world vnode
  pub keys_are : keys_of copies.held.items ≡ keys
  pub states_are : All (λ c. IsStateOf (known_at world vnode c.key) c.state) copies.held.items

-- the keys of which a vnode knows something, each once, in the order of bytes
pub record AreKnownKeys (world : Knowledge) (vnode : ℕ) (keys : List Key) : Type 0 where
  pub each : (k : Key) → Contains keys k ↔ ((dot : Dot) × InContext (known_at world vnode k) dot)
  pub rising : IsStrictlySortedBy key_cmp keys

-- a vnode's journal takes so many events more
abbrev pub HasPlaces : Knowledge → ℕ → ℕ → Type 0
HasPlaces world vnode count = accepted_at world vnode + count ≤ max_entries

-- no vnode has or had an identifier, and nothing was put under it
pub record IsNewId (world : Knowledge) (id : ℕ) : Type 0 where
  pub vnodes : (vnode : ℕ) → vnode < length world.ids → id_of world vnode ≢ id
  pub puts : (put : KeyedWrite) → Contains world.puts put → put.write.dot.vnode ≢ id

-- a get, a summary, a send or a restart at a vnode
abbrev pub IsAt : Event → ℕ → Type 0
IsAt (Get at key) vnode = at ≡ vnode
IsAt (Summarize at key) vnode = at ≡ vnode
IsAt (Send at key) vnode = at ≡ vnode
IsAt (Restart at) vnode = at ≡ vnode
IsAt (Put at key seen content) vnode = ⊥
IsAt (SendPart at key summary) vnode = ⊥
IsAt (Deliver message at) vnode = ⊥
IsAt (Dump at) vnode = ⊥
IsAt (Load dump at incarnation) vnode = ⊥
IsAt (ResolveRead get hook) vnode = ⊥
IsAt (ResolveWrite run at) vnode = ⊥

-- nothing stands against an event
abbrev pub MayHappen : Knowledge → Event → Type 0
MayHappen world (Put vnode key seen content) = (clock : List Dot) × Means world seen clock × MayPut world vnode key clock
MayHappen world (Get vnode key) = HasPlace world vnode
MayHappen world (Summarize vnode key) = HasPlace world vnode
MayHappen world (Send vnode key) = HasPlace world vnode
MayHappen world (SendPart vnode key summary) = (other : Key) × (held : List Write) × (left_by world summary ≡ Copied other held) × HasPlace world vnode
MayHappen world (Deliver message vnode) = (key : Key) × (writes : List Write) × IsBrought world message vnode key writes × MayDeliver world vnode key writes
MayHappen world (Restart vnode) = HasPlace world vnode
MayHappen world (Dump vnode) = (keys : List Key) × AreKnownKeys world vnode keys × HasPlaces world vnode (length keys)
MayHappen world (Load dump vnode incarnation) = (copies : List Copy) × (left_by world dump ≡ CopiedAll copies)
MayHappen world (ResolveRead get hook) = (key : Key) × (writes : List Write) × (left_by world get ≡ Copied key writes)
MayHappen world (ResolveWrite run vnode) = (key : Key) × (writes : List Write) × (content : Content) × (clock : List Dot) × (left_by world run ≡ Chosen key writes (Some content)) × IsContext writes clock × MayPut world vnode key clock

-- From old, with a table of these helpers, the event may be replied so and lead to new.
pub data Happens (listed : List Entry) (old : Knowledge) (event : Event) (reply : Reply) (new : Knowledge) : Type 0 where
  -- an event against which nothing stands may want memory, and then it didn't happen
  wants_memory : MayHappen old event → reply ≡ Refused NoMemory → new ≡ after_refusal old NoMemory → Happens listed old event reply new
  -- an event that names a refused one is refused alike
  refused_alike : (name : ℕ) (refusal : VnodeFault) → named event ≡ Some name → left_by old name ≡ Failed refusal
      → reply ≡ Refused refusal → new ≡ after_refusal old refusal → Happens listed old event reply new
  -- a put gets the next identifier of its vnode and key, and its write joins what its vnode knows
  stored : (vnode : ℕ) (key : Key) (seen : Seen) (content : Content) (clock : List Dot) → event ≡ Put vnode key seen content
      → Means old seen clock → MayPut old vnode key clock
      → reply ≡ Stored (next_dot old vnode key) → new ≡ after_put old vnode key (write_of old vnode key clock content) → Happens listed old event reply new
  put_refused : (vnode : ℕ) (key : Key) (seen : Seen) (content : Content) (clock : List Dot) (refusal : VnodeFault) → event ≡ Put vnode key seen content
      → Means old seen clock → RefusesPut old vnode key clock refusal
      → reply ≡ Refused refusal → new ≡ after_refusal old refusal → Happens listed old event reply new
  -- a get answers the current writes and their context
  found : (vnode : ℕ) (key : Key) (state : State) → event ≡ Get vnode key
      → IsStateOf (known_at old vnode key) state → HasPlace old vnode
      → reply ≡ Found state → new ≡ after_copy old vnode key → Happens listed old event reply new
  -- a summary is a get that answers dots and clock alone
  summarized : (vnode : ℕ) (key : Key) (state : State) → event ≡ Summarize vnode key
      → IsStateOf (known_at old vnode key) state → HasPlace old vnode
      → reply ≡ Summarized (summary_of state) → new ≡ after_copy old vnode key → Happens listed old event reply new
  sent : (vnode : ℕ) (key : Key) (message : Message) → event ≡ Send vnode key
      → Carries old vnode key message → HasPlace old vnode
      → reply ≡ Sent message → new ≡ after_copy old vnode key → Happens listed old event reply new
  -- a part is a send that leaves out the contents of the dots that a summary told, whatever key that was of
  part_sent : (vnode : ℕ) (key : Key) (summary : ℕ) (other : Key) (held : List Write) (message : PartMessage) → event ≡ SendPart vnode key summary
      → left_by old summary ≡ Copied other held → CarriesPart old vnode key held message → HasPlace old vnode
      → reply ≡ SentPart message → new ≡ after_part old vnode key held → Happens listed old event reply new
  -- where no memory is found for the part alone, the whole state is sent
  whole_sent : (vnode : ℕ) (key : Key) (summary : ℕ) (other : Key) (held : List Write) (message : Message) → event ≡ SendPart vnode key summary
      → left_by old summary ≡ Copied other held → Carries old vnode key message → HasPlace old vnode
      → reply ≡ Sent message → new ≡ after_copy old vnode key → Happens listed old event reply new
  part_refused : (vnode : ℕ) (key : Key) (summary : ℕ) (other : Key) (held : List Write) → event ≡ SendPart vnode key summary
      → left_by old summary ≡ Copied other held → IsFull old vnode
      → reply ≡ Refused JournalFull → new ≡ after_refusal old JournalFull → Happens listed old event reply new
  -- a delivery unites what its vnode knows with the message's writes, and tells whether current writes or context became others
  delivered : (message vnode : ℕ) (key : Key) (writes : List Write) (changed : Bool) → event ≡ Deliver message vnode
      → IsBrought old message vnode key writes
      → MayDeliver old vnode key writes
      → MatchBool changed (LookAlike (known_at old vnode key) (known_at old vnode key ++ writes) → ⊥) (LookAlike (known_at old vnode key) (known_at old vnode key ++ writes))
      → reply ≡ Changed changed → new ≡ after_delivery old vnode key writes → Happens listed old event reply new
  delivery_refused : (message vnode : ℕ) (key : Key) (writes : List Write) (refusal : VnodeFault) → event ≡ Deliver message vnode
      → IsBrought old message vnode key writes → RefusesDelivery old vnode key writes refusal
      → reply ≡ Refused refusal → new ≡ after_refusal old refusal → Happens listed old event reply new
  -- a part of which a left out content lacks at its vnode isn't delivered, and nothing happened
  missing : (message vnode : ℕ) (key : Key) (writes held : List Write) → event ≡ Deliver message vnode
      → left_by old message ≡ Parted key writes held → LacksLeftOut (known_at old vnode key) writes held
      → reply ≡ Missing → new ≡ after_nothing old → Happens listed old event reply new
  -- a restart changes nothing
  restarted : (vnode : ℕ) → event ≡ Restart vnode → HasPlace old vnode
      → reply ≡ Restarted → new ≡ after_restart old vnode → Happens listed old event reply new
  -- a dump answers the current writes and their context of each key of which its vnode knows something
  dumped : (vnode : ℕ) (keys : List Key) (copies : Copies) → event ≡ Dump vnode
      → AreKnownKeys old vnode keys → HasPlaces old vnode (length keys) → CarriesAll old vnode keys copies
      → reply ≡ Dumped copies → new ≡ after_dump old vnode keys → Happens listed old event reply new
  -- a journal that hasn't place for all of them takes none
  dump_refused : (vnode : ℕ) (keys : List Key) → event ≡ Dump vnode
      → AreKnownKeys old vnode keys → max_entries < accepted_at old vnode + length keys
      → reply ≡ Refused JournalFull → new ≡ after_refusal old JournalFull → Happens listed old event reply new
  -- a load goes on under a new identifier with what the dump copied, whatever the vnode knew
  loaded : (dump vnode incarnation : ℕ) (copies : List Copy) → event ≡ Load dump vnode incarnation
      → left_by old dump ≡ CopiedAll copies → IsNewId old (id_under incarnation vnode)
      → reply ≡ Loaded (length copies) → new ≡ after_load old vnode (id_under incarnation vnode) copies → Happens listed old event reply new
  -- a full journal takes no get, summary, send or restart
  full : (vnode : ℕ) → IsAt event vnode → IsFull old vnode
      → reply ≡ Refused JournalFull → new ≡ after_refusal old JournalFull → Happens listed old event reply new
  -- a resolver decides on the current writes that a get answered, and changes nothing
  resolved : (get : ℕ) (hook : Program) (key : Key) (writes : List Write) (state : State) (resolution : Resolution) → event ≡ ResolveRead get hook
      → left_by old get ≡ Copied key writes → IsStateOf writes state → IsResolution listed hook state.siblings resolution
      → reply ≡ Resolved resolution → new ≡ after_run old key writes (chosen_by resolution state.siblings) → Happens listed old event reply new
  -- the content that a run chose is put with the context that its get answered, whatever is known by now
  choice_stored : (run vnode : ℕ) (key : Key) (writes : List Write) (content : Content) (clock : List Dot) → event ≡ ResolveWrite run vnode
      → left_by old run ≡ Chosen key writes (Some content) → IsContext writes clock → MayPut old vnode key clock
      → reply ≡ Stored (next_dot old vnode key) → new ≡ after_put old vnode key (write_of old vnode key clock content) → Happens listed old event reply new
  choice_refused : (run vnode : ℕ) (key : Key) (writes : List Write) (content : Content) (clock : List Dot) (refusal : VnodeFault) → event ≡ ResolveWrite run vnode
      → left_by old run ≡ Chosen key writes (Some content) → IsContext writes clock → RefusesPut old vnode key clock refusal
      → reply ≡ Refused refusal → new ≡ after_refusal old refusal → Happens listed old event reply new
  -- where a run chose nothing, nothing is put
  nothing_chosen : (run vnode : ℕ) (key : Key) (writes : List Write) → event ≡ ResolveWrite run vnode
      → left_by old run ≡ Chosen key writes None
      → reply ≡ Nothing → new ≡ after_nothing old → Happens listed old event reply new

-- with a table of these helpers the events may be replied so, one after another
abbrev pub Run : List Entry → Knowledge → List Event → List Reply → Knowledge → Type 0
Run listed old [] [] new = new ≡ old
Run listed old (event ∷ events) (reply ∷ replies) new = (next : Knowledge) × Happens listed old event reply next × Run listed next events replies new
Run listed old [] (reply ∷ replies) new = ⊥
Run listed old (event ∷ events) [] new = ⊥
