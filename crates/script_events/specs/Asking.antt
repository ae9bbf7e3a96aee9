-- What the lines of a script ask for, and what they print, each by what stands before it (this store's profile).
use Rattle.std.specs.Prelude.{◌≡◌, ◌⊎◌, ◌<◌, ◌≤◌, ◌-◌, ℕ, List, [], ◌∷◌, ◌++◌, codes, length, take, Option, None, Some, Result, Ok, Err}
use Rattle.std.specs.Borrow.{Bor}
use Rattle.std.specs.BTreeMap.{BTreeMap, get_by}
use Rattle.std.specs.Map.{update}
use Rattle.std.specs.Str.{bytes_eq}
use Rattle.std.specs.Cmp.Lexicographic.{slice_cmp}
use Rattle.std.specs.Ordering.{nat_cmp}
use Rattle.bpf_admission.specs.declared.refusal.Refusal.{Refusal}
use Rattle.bpf_admission.specs.declared.refusal.Refusal.TheVariants as refusal
use Rattle.bpf_helpers.specs.declared.sig.Entry.{Entry}
use Rattle.bpf_helpers.specs.Entries.{AgreesWith}
use Rattle.bpf_image.specs.declared.image.ImageKind.{ImageKind}
use Rattle.bpf_image.specs.declared.image.ImageKind.TheVariants.{PreCommit, Resolver}
use Rattle.bpf_verifier.specs.Program.{Program}
use Rattle.context_token.specs.Token.{read_text}
use Rattle.context_token.specs.declared.fault.TokenFault.{TokenFault}
use Rattle.dvv.specs.declared.Dot.{Dot}
use Rattle.key_state.specs.declared.content.Content.{Content}
use Rattle.key_state.specs.declared.content.Content.TheVariants.{Value, Tombstone}
use Rattle.key_state.specs.declared.content.Key.{Key}
use Rattle.script_lines.specs.Lines.{lines_in}
use Rattle.script_lines.specs.Spelling.{IsSpelling, Spells}
use Rattle.script_lines.specs.declared.line.Context.{Context}
use Rattle.script_lines.specs.declared.line.Context.TheVariants as context
use Rattle.script_lines.specs.declared.line.Line.{Line}
use Rattle.script_lines.specs.declared.line.Line.TheVariants as line
use Rattle.script_lines.specs.declared.line.Question.{Question}
use Rattle.script_lines.specs.declared.line.Question.TheVariants as question
use Rattle.script_lines.specs.declared.line.Spelling.TheVariants as spelling
use Rattle.script_events.specs.declared.changing.Had.{Had}
use Rattle.script_events.specs.declared.changing.Had.TheVariants as had
use Rattle.script_events.specs.declared.check.Check.{Check}
use Rattle.script_events.specs.declared.hooking.FileHooks.{FileHooks}
use Rattle.script_events.specs.declared.images.NoHook.{NoHook}
use Rattle.script_events.specs.declared.images.NoHook.TheVariants.{Unreadable, Refused}
use Rattle.script_events.specs.declared.reading.Reader.{Reader}
use Rattle.script_events.specs.declared.script.Answered.{Answered}
use Rattle.script_events.specs.declared.script.Answered.TheVariants as answered
use Rattle.script_events.specs.declared.script.Script.{Script}
use Rattle.script_events.specs.Scripts.{IsOneMore}
use Rattle.world.specs.Running.{IsDumpAt, IsGetAt, IsMessageAt, IsRunAt, IsSummaryAt}
use Rattle.world.specs.declared.event.Event.{Event}
use Rattle.world.specs.declared.event.Event.TheVariants as event
use Rattle.world.specs.declared.event.Seen.{Seen}
use Rattle.world.specs.declared.event.Seen.TheVariants as seen

-- ---- words

-- a key of scripts: all are in one bucket
abbrev pub sim_key : List ℕ → Key
sim_key key = record { bucket = codes "sim"; key = key }

-- a value as text, or a tombstone where there is none
abbrev pub content_of : Option (Bor (List ℕ)) → Content
content_of (Some value) = Value (codes "text/plain") value.now
content_of None = Tombstone

-- the event that asks a question
abbrev pub question_event : Question → ℕ → Key → Event
question_event question.Get vnode key = event.Get vnode key
question_event question.Send vnode key = event.Send vnode key
question_event question.Sum vnode key = event.Summarize vnode key

-- ---- what lines have come to

-- a script, the place of the latest event that has a name, and that of the latest run of a resolver on what the get of a name answered, if its image was let in
pub record Reading : Type 0 where
  pub script : Script
  pub named : List ℕ → Option ℕ
  pub runs : List ℕ → Option ℕ

-- what a map has at the bytes of a name
abbrev pub at_name : {X : Type 0} → BTreeMap (Bor (List ℕ)) X → List ℕ → Option X
at_name map name = get_by (λ other. slice_cmp nat_cmp name other.now) map

abbrev pub reading_of : Reader → Reading
reading_of reader = record { script = reader.script; named = at_name reader.names.events; runs = at_name reader.names.runs }

-- a script has one line more that was read, and no event
pub record IsToldMore (old : Script) (told : Answered) (new : Script) : Type 0 where
  pub vnodes : new.vnodes ≡ old.vnodes
  pub events : new.events.items ≡ old.events.items
  pub answered : new.answered.items ≡ old.answered.items ++ told ∷ []

-- names stand for what they stood for
abbrev pub AreKept : {X : Type 0} → (List ℕ → Option X) → (List ℕ → Option X) → Type 0
AreKept old new = (name : List ℕ) → new name ≡ old name

-- a name stands for a thing, or for none, and others for what they stood for
abbrev pub StandsFor : {X : Type 0} → (List ℕ → Option X) → List ℕ → Option X → (List ℕ → Option X) → Type 0
StandsFor old name it new = (other : List ℕ) → new other ≡ update bytes_eq old name it other

-- an event more, of which a line tells the reply
abbrev pub Adds : Reading → Event → Reading → Type 0
Adds old event new = IsOneMore old.script event answered.Reply new.script

-- the same, and the event's place has a name
abbrev pub AddsNamed : Reading → Event → List ℕ → Reading → Type 0
AddsNamed old event name new = Adds old event new × StandsFor old.named name (Some (length old.script.events.items)) new.named × AreKept old.runs new.runs

-- the same, and no name changes
abbrev pub AddsOnly : Reading → Event → Reading → Type 0
AddsOnly old event new = Adds old event new × AreKept old.named new.named × AreKept old.runs new.runs

-- a line tells something, of no event
abbrev pub TellsOnly : Reading → Answered → Reading → Type 0
TellsOnly old told new = IsToldMore old.script told new.script × AreKept old.named new.named × AreKept old.runs new.runs

-- ---- what a line asks for

-- there are so many vnodes, and nothing is printed
abbrev pub Counts : ℕ → Reading → Reading → Type 0
Counts count old new = (old.script.vnodes ≡ 0) × (0 < count) × (count ≤ 255) × (new.script.vnodes ≡ count) × (new.script.events.items ≡ old.script.events.items) × (new.script.answered.items ≡ old.script.answered.items)
    × AreKept old.named new.named × AreKept old.runs new.runs

-- what a put had seen, by its word: nothing, what the latest get of a name answered, or the events of a token
abbrev pub IsSeen : Context → Reading → Seen → Type 0
IsSeen context.Nothing old it = it ≡ seen.Clock []
IsSeen (context.OfGet name) old it = (get : ℕ) × (old.named name.now ≡ Some get) × IsGetAt old.script.events.items get × (it ≡ seen.Get get)
IsSeen (context.Token text) old it = (clock : List Dot) × (read_text text.now ≡ Ok clock) × (it ≡ seen.Clock clock)

-- its token has a fault, which isn't want of memory
abbrev pub IsNoToken : Context → TokenFault → Type 0
IsNoToken context.Nothing fault = ⊥
IsNoToken (context.OfGet name) fault = ⊥
IsNoToken (context.Token text) fault = read_text text.now ≡ Err fault

-- what the word comes to: of a get that isn't there nothing is said
abbrev pub IsHad : Context → Reading → Had → Type 0
IsHad word old (had.Seen it) = IsSeen word old it
IsHad word old (had.NoToken fault) = IsNoToken word fault
IsHad word old (had.NoGet name) = Unit {0}

-- a put, or the refusal of its token
abbrev pub Puts : ℕ → List ℕ → Option (Bor (List ℕ)) → Context → Reading → Reading → Type 0
Puts vnode key value word old new =
    ((it : Seen) × IsSeen word old it × AddsOnly old (event.Put vnode (sim_key key) it (content_of value)) new)
    ⊎ ((fault : TokenFault) × IsNoToken word fault × TellsOnly old (answered.Refused fault) new)

-- a send of a part for the latest summary of a name
abbrev pub SendsPart : ℕ → List ℕ → List ℕ → List ℕ → Reading → Reading → Type 0
SendsPart vnode key summary name old new =
    (place : ℕ) × (old.named summary ≡ Some place) × IsSummaryAt old.script.events.items place × AddsNamed old (event.SendPart vnode (sim_key key) place) name new

-- a delivery of what the latest send of a name sent, of all or of a part
abbrev pub Delivers : List ℕ → ℕ → Reading → Reading → Type 0
Delivers name vnode old new = (place : ℕ) × (old.named name ≡ Some place) × IsMessageAt old.script.events.items place × AddsOnly old (event.Deliver place vnode) new

-- a load of what the latest dump of a name copied
abbrev pub Loads : ℕ → ℕ → List ℕ → Reading → Reading → Type 0
Loads vnode incarnation name old new = (place : ℕ) × (old.named name ≡ Some place) × IsDumpAt old.script.events.items place × AddsOnly old (event.Load place vnode incarnation) new

-- a put of what the latest run of a resolver on the get of a name chose, or nothing where there is no such run
abbrev pub Commits : ℕ → List ℕ → Reading → Reading → Type 0
Commits vnode name old new =
    ((run : ℕ) × (old.runs name ≡ Some run) × IsRunAt old.script.events.items run × AddsOnly old (event.ResolveWrite run vnode) new)
    ⊎ (((run : ℕ) → old.runs name ≡ Some run → IsRunAt old.script.events.items run → ⊥) × TellsOnly old answered.Nothing new)

-- a get, and beside its reply what a hook says of a new value
abbrev pub AddsCheck : ℕ → List ℕ → List ℕ → Program → Script → Script → Type 0
AddsCheck vnode key value hook old new =
    (check : Check) × (check.hook ≡ hook) × (check.new ≡ Value (codes "text/plain") value) × IsOneMore old (event.Get vnode (sim_key key)) (answered.Checked check) new

module _ (found : List ℕ → ImageKind → Result Program NoHook → Type 0) where
  -- the image of a kind in a file isn't let in: so the file says, or memory ran out
  abbrev pub IsTurnedAway : List ℕ → ImageKind → Refusal → Type 0
  IsTurnedAway file kind why = (why ≡ refusal.NoMemory) ⊎ found file kind (Err (Refused why))

  -- a run of the resolver in a file on what the latest get of a name answered, or the refusal of its image, behind which no run has the name
  abbrev pub Resolves : List ℕ → List ℕ → Reading → Reading → Type 0
  Resolves name file old new =
      (get : ℕ) × (old.named name ≡ Some get) × IsGetAt old.script.events.items get × AreKept old.named new.named
      × (((hook : Program) × found file Resolver (Ok hook) × Adds old (event.ResolveRead get hook) new × StandsFor old.runs name (Some (length old.script.events.items)) new.runs)
      ⊎ ((why : Refusal) × IsTurnedAway file Resolver why × IsToldMore old.script (answered.NotLetIn why) new.script × StandsFor old.runs name None new.runs))

  -- why there is no hook of a kind in a file: as the file says, or memory ran out; of one that can't be read nothing is said
  abbrev pub IsRefusedSo : List ℕ → ImageKind → NoHook → Type 0
  IsRefusedSo file kind (Refused why) = IsTurnedAway file kind why
  IsRefusedSo file kind Unreadable = Unit {0}

  -- a get, and what the pre-commit hook in a file says of a new value beside its answer; or the refusal of its image
  abbrev pub Checks : ℕ → List ℕ → List ℕ → List ℕ → Reading → Reading → Type 0
  Checks vnode key value file old new =
      ((hook : Program) × found file PreCommit (Ok hook) × AddsCheck vnode key value hook old.script new.script × AreKept old.named new.named × AreKept old.runs new.runs)
      ⊎ ((why : Refusal) × IsTurnedAway file PreCommit why × TellsOnly old (answered.NotLetIn why) new)

  -- what a line asks for, of what those before it have come to
  abbrev pub Asks : Line → Reading → Reading → Type 0
  Asks (line.Vnodes count) old new = Counts count old new
  Asks (line.Put vnode key value word) old new = Puts vnode key.now value word old new
  Asks (line.Ask asked vnode key name) old new = AddsNamed old (question_event asked vnode (sim_key key.now)) name.now new
  Asks (line.Part vnode key summary name) old new = SendsPart vnode key.now summary.now name.now old new
  Asks (line.Deliver name vnode) old new = Delivers name.now vnode old new
  Asks (line.Restart vnode) old new = AddsOnly old (event.Restart vnode) new
  Asks (line.Dump vnode name) old new = AddsNamed old (event.Dump vnode) name.now new
  Asks (line.Load vnode incarnation name) old new = Loads vnode incarnation name.now old new
  Asks (line.Resolve name file) old new = Resolves name.now file.now old new
  Asks (line.Commit vnode name) old new = Commits vnode name.now old new
  Asks (line.Check vnode key value file) old new = Checks vnode key.now value.now file.now old new

  -- what lines come to, one after another: from nothing on, each that is neither empty nor a comment asks for what it spells
  pub data ComeTo : List (List ℕ) → Reading → Type 0 where
    none : (start : Reading) → start.script.vnodes ≡ 0 → start.script.events.items ≡ [] → start.script.answered.items ≡ [] → ((name : List ℕ) → start.named name ≡ None) → ((name : List ℕ) → start.runs name ≡ None) → ComeTo [] start
    passed : (lines : List (List ℕ)) (bytes : List ℕ) (old : Reading) → ComeTo lines old → Spells bytes spelling.PassedOver → IsSpelling bytes spelling.PassedOver → ComeTo (lines ++ bytes ∷ []) old
    asked : (lines : List (List ℕ)) (bytes : List ℕ) (asks : Line) (old new : Reading) → ComeTo lines old → IsSpelling bytes (spelling.Line asks) → Asks asks old new → ComeTo (lines ++ bytes ∷ []) new

  -- a script is what these lines ask for, and tells what they print
  abbrev pub AreAnsweredBy : Script → List (List ℕ) → Type 0
  AreAnsweredBy script lines = (reading : Reading) × ComeTo lines reading × (reading.script ≡ script)

  -- the same of the lines before that of a number, counted from 1
  abbrev pub AreAnsweredUpTo : Script → List ℕ → ℕ → Type 0
  AreAnsweredUpTo script bytes number = AreAnsweredBy script (take (number - 1) (lines_in bytes))

  -- ---- what is known of the hooks in files

  -- what is kept of files is what they say of a kind, and a table of these helpers runs the hooks
  abbrev pub IsKnown : List Entry → ImageKind → List ℕ → Result Program Refusal → Type 0
  IsKnown listed kind file (Ok hook) = found file kind (Ok hook) × (hook.kind ≡ kind) × AgreesWith listed hook.sigs
  IsKnown listed kind file (Err why) = found file kind (Err (Refused why))

  abbrev pub AreKnown : List Entry → ImageKind → BTreeMap (Bor (List ℕ)) (Result Program Refusal) → Type 0
  AreKnown listed kind kept = (file : List ℕ) (answer : Result Program Refusal) → at_name kept file ≡ Some answer → IsKnown listed kind file answer

  abbrev pub AreAllKnown : List Entry → FileHooks → Type 0
  AreAllKnown listed hooks = AreKnown listed Resolver hooks.resolvers × AreKnown listed PreCommit hooks.checks
