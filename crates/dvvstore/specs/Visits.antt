-- What the workers of a crew do to the vnodes, by the passes of their seats (this store's profile).
use Rattle.std.specs.Prelude.{◌≡◌, ℕ, All, List, [], ◌∷◌, ◌++◌, Option, None, Some, Result, map, reverse, true}
use Rattle.bpf_image.specs.declared.image.ImageKind.{ImageKind}
use Rattle.bpf_verifier.specs.Program.{Program}
use Rattle.bpf_helpers.specs.declared.sig.Entry.{Entry}
use Rattle.hook_registry.specs.Changes.{Change}
use Rattle.hook_registry.specs.declared.fault.HookFault.{HookFault}
use Rattle.hook_registry.specs.declared.fault.NameFault.{NameFault}
use Rattle.hook_registry.specs.declared.fault.NotSeen.{NotSeen}
use Rattle.http_request.specs.declared.ask.Call.{Call}
use Rattle.http_response.specs.declared.reply.Reply.{Reply}
use Rattle.http_connection.specs.Dialogue.{Completes}
use Rattle.kept_hooks.specs.Alone.{Alone, AreTaken, Changes, alone_of}
use Rattle.kept_hooks.specs.Lists.{Listed}
use Rattle.kept_hooks.specs.Replays.{no_contents}
use Rattle.http_connections.specs.Halls.{AllStand, HallStands, Log, all_parts}
use Rattle.http_connections.specs.Sockets.{Sockets}
use Rattle.http_connections.specs.declared.seat.Seat.{Seat}
use Rattle.journal.specs.Logs.{Log as JournalLog}
use Rattle.audit_cluster.specs.Moments.{HappenBehind}
use Rattle.ring.specs.Places.{PlacementView, copies_in}
use Rattle.server_sockets.specs.Work.{seats_of, shows}
use Rattle.server_sockets.specs.declared.worker.Worker.{Worker}
use Rattle.cluster_stamps.specs.declared.view.Size.{Size}
use Rattle.cluster_stamps.specs.declared.view.Told.{Told}
use Rattle.cluster_stamps.specs.declared.view.View.{View}
use Rattle.cluster_vnode.specs.Gathers.{IsGathered}
use Rattle.server_store.specs.View.{StoreView, shown}
use Rattle.dvvstore.specs.Crews.{by_digest}
use Rattle.server_one_thread.specs.Passes.{AreCallsOf, GivesUnnoted, PassCalls, Passing, all_calls, told_by}
use Rattle.server_receipts.specs.Receipts.{AreToldBy}

-- a store as it begins on so many vnodes, as a pass shows it: what the pass knows, the hooks, the helpers that these may call, and where keys stand
abbrev pub begun : {H : Type 0} → Size → View → H → List Entry → PlacementView → StoreView Passing H
begun size pass hooks listed placement = shown (record { size = size; pass = pass; failures = 0; origin = 0 }) hooks listed placement []

module _ {B : Type 0} (gives : B → Call → Reply → B → Type 0) (copies : B → ℕ) where
  -- from one state of a backend, the calls of a worker's connections have led to another: they are those of one log, in order, and each connection's part of it is its own
  abbrev pub HasLed : B → B → Type 0
  HasLed start now = (sockets : Sockets) × (seats : ℕ → Option Seat) × HallStands gives copies start now sockets seats

  -- so it is of these connections of a worker
  abbrev pub Leads : B → Worker → B → Type 0
  Leads start worker now = (sockets : Sockets) × shows worker sockets × HallStands gives copies start now sockets (seats_of worker)

-- this was told, and maybe more, and all of it is gathered in these journals, each once
abbrev pub HasAll : List Told → List JournalLog → Type 0
HasAll told logs = (more : List Told) × IsGathered (told ++ more) logs

module _ {H : Type 0} (takes : H → Change → Result Unit HookFault → H → Type 0) where
  -- Hooks have begun with the requests of a list, each of which was done; but that those which aren't let in any more have none of their names. These requests make
  -- them what they are.
  abbrev pub HaveBegun : List Entry → List ℕ → H → Listed → H → Type 0
  HaveBegun sigs held old requests new =
      (count : ℕ) × (served : Alone H)
      × Completes (Changes takes sigs) 1 held (alone_of old (record { requests = []; whole = true }) []) served [] (Some (no_contents count)) count
      × (requests ≡ served.listed) × AreTaken takes served.refused served.hooks new

  -- the same stores, but that the last one's hooks have begun with the requests of a list; these requests make them what they are
  abbrev pub IsLastBegun : List ℕ → Listed → List (StoreView Passing H) → List (StoreView Passing H) → Type 0
  IsLastBegun held requests [] now = ⊥
  IsLastBegun held requests (start ∷ []) now = (hooks : H) × (now ≡ record start { hooks = hooks } ∷ []) × HaveBegun start.listed held start.hooks requests hooks
  IsLastBegun held requests (start ∷ next ∷ rest) now = (after : List (StoreView Passing H)) × (now ≡ start ∷ after) × IsLastBegun held requests (next ∷ rest) after

  -- so it is where a folder held a list; else they are the same
  abbrev pub AreBegun : Option (List ℕ) → Listed → List (StoreView Passing H) → List (StoreView Passing H) → Type 0
  AreBegun None requests starts now = now ≡ starts
  AreBegun (Some held) requests starts now = IsLastBegun held requests starts now

  -- so it is with some requests
  abbrev pub AreStarts : Option (List ℕ) → List (StoreView Passing H) → List (StoreView Passing H) → Type 0
  AreStarts held starts now = (requests : Listed) × AreBegun held requests starts now

-- a store is over these vnodes, where keys stand as their digests say, with so many copies
abbrev pub IsOver : {H : Type 0} → Size → ℕ → StoreView Passing H → Type 0
IsOver size copies start = (start.peers.size ≡ size) × (start.placement ≡ by_digest size.vnodes copies)

-- there is a store over these vnodes for each table, whose hooks may call its helpers: that of the last table is the first
abbrev pub AreOfTables : {H : Type 0} → Size → ℕ → List (List Entry) → List (StoreView Passing H) → Type 0
AreOfTables size copies tables starts = (map (λ s. s.listed) starts ≡ reverse tables) × All (IsOver size copies) starts

-- so it is, but that the last one's hooks have begun with the requests of a list, if a folder held one
abbrev pub BeginOver : {H : Type 0} → (H → Change → Result Unit HookFault → H → Type 0) → Size → ℕ → List (List Entry) → Option (List ℕ) → List (StoreView Passing H) → Type 0
BeginOver {H} takes size copies tables held now = (starts : List (StoreView Passing H)) × AreOfTables size copies tables starts × AreStarts takes held starts now

-- what passes had been told before, each with the calls of its visit behind it
abbrev pub told_with : {H : Type 0} → List (StoreView Passing H) → List (List Told) → List Told
told_with [] calls = []
told_with (start ∷ starts) [] = []
told_with (start ∷ starts) (calls ∷ rest) = (told_by start ++ calls) ++ told_with starts rest

-- by how hooks are found, named and changed
module _ {H : Type 0} (finds : H → List ℕ → ImageKind → Result (Option Program) NotSeen → H → Type 0)
    (names : H → List ℕ → ImageKind → Result (Option (List ℕ)) NameFault → H → Type 0) (takes : H → Change → Result Unit HookFault → H → Type 0) where
  -- A worker with such a store made just these calls on vnodes: there is one log of the exchanges of its connections, each connection's part of it is its own, and one
  -- after the other the exchanges made these calls, each answered by what they told.
  pub record IsVisit (start : StoreView Passing H) (calls : List Told) : Type 0 where
    pub log : Log
    pub sockets : Sockets
    pub seats : ℕ → Option Seat
    pub each : AllStand (copies_in start.placement) log sockets seats
    pub owns : List (List Told)
    pub end : StoreView Passing H
    pub made : AreCallsOf (GivesUnnoted PassCalls finds names takes) told_by start (all_parts log) owns end
    pub all : calls ≡ all_calls owns

  -- the worker of each store made these calls
  abbrev pub AreVisits : List (StoreView Passing H) → List (List Told) → Type 0
  AreVisits [] [] = Unit {0}
  AreVisits [] (calls ∷ rest) = ⊥
  AreVisits (start ∷ starts) [] = ⊥
  AreVisits (start ∷ starts) (calls ∷ rest) = IsVisit start calls × AreVisits starts rest

  -- the pass of a store came back: it was told what it had been told before, and then the calls of a visit
  abbrev pub HasVisited : StoreView Passing H → View → Type 0
  HasVisited start back = (calls : List Told) × IsVisit start calls × (back.told ≡ told_by start ++ calls)

  -- so did each
  abbrev pub HaveVisited : List (StoreView Passing H) → List View → Type 0
  HaveVisited [] [] = Unit {0}
  HaveVisited [] (back ∷ rest) = ⊥
  HaveVisited (start ∷ starts) [] = ⊥
  HaveVisited (start ∷ starts) (back ∷ rest) = HasVisited start back × HaveVisited starts rest

  -- what a worker's answers tell is so of these journals: of each exchange of its connections, by the receipts of its own calls; and where the journals are one run
  -- that goes on from fronts of which this is so, these calls are steps of it, one behind the other
  abbrev pub TellsOf : (List ℕ → Type 0) → (logs : List JournalLog) (start : StoreView Passing H) (calls : List Told) → IsVisit start calls → Type 0
  TellsOf GoesOn logs start calls visit =
      AreToldBy finds names takes logs start (all_parts visit.log) visit.owns visit.end × ((fronts : List ℕ) → GoesOn fronts → HappenBehind fronts logs (all_calls visit.owns))

  -- so it is of each worker
  abbrev pub AllTellOf : (List ℕ → Type 0) → (logs : List JournalLog) (starts : List (StoreView Passing H)) (calls : List (List Told)) → AreVisits starts calls → Type 0
  AllTellOf GoesOn logs [] [] visits = Unit {0}
  AllTellOf GoesOn logs [] (calls ∷ rest) visits = ⊥
  AllTellOf GoesOn logs (start ∷ starts) [] visits = ⊥
  AllTellOf GoesOn logs (start ∷ starts) (calls ∷ rest) visits = TellsOf GoesOn logs start calls visits.0 × AllTellOf GoesOn logs starts rest visits.1

  -- each store had its visit, this is so of what the passes had been told before and the calls of the visits, and all answers tell of
  -- these journals, and of the run that they are from such fronts on
  abbrev pub AfterAnswers : (List ℕ → Type 0) → List (StoreView Passing H) → List JournalLog → (List Told → Type 0) → Type 0
  AfterAnswers GoesOn starts logs Says = (calls : List (List Told)) × (visits : AreVisits starts calls) × Says (told_with starts calls) × AllTellOf GoesOn logs starts calls visits

  -- each store had its visit, this is so of what the passes had been told before and the calls of the visits, and all answers tell of
  -- whatever journals hold all that was told, and of the run that they are where nothing was there before
  abbrev pub AfterAnswersOf : List (StoreView Passing H) → (List Told → List Told → Type 0) → Type 0
  AfterAnswersOf starts Says =
      (calls : List (List Told)) × (visits : AreVisits starts calls) × (all : List Told) × Says (told_with starts calls) all
      × ((logs : List JournalLog) → IsGathered all logs → AllTellOf (λ fronts. fronts ≡ []) logs starts calls visits)
