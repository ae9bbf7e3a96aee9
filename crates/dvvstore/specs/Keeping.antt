-- What stands on the output when a store that is kept has ended (this store's profile).
use Rattle.std.specs.Prelude.{◌≡◌, ◌⊎◌, ◌/◌, ◌++◌, ◌∷◌, ℕ, List, [], Option, Some, None, Result, Ok, Err, true, codes, decimal, length, min, vec_len}
use Rattle.bpf_image.specs.declared.image.ImageKind.{ImageKind}
use Rattle.bpf_verifier.specs.Program.{Program}
use Rattle.hook_registry.specs.Changes.{Change}
use Rattle.hook_registry.specs.declared.fault.HookFault.{HookFault}
use Rattle.hook_registry.specs.declared.fault.NameFault.{NameFault}
use Rattle.hook_registry.specs.declared.fault.NotSeen.{NotSeen}
use Rattle.std.specs.Io.KnownBytes.{Appends}
use Rattle.commands.specs.Command.{begun}
use Rattle.commands.specs.Outcome.{line}
use Rattle.commands.specs.declared.server.Ended.{Ended}
use Rattle.commands.specs.declared.server.Ended.TheVariants as ended
use Rattle.audit_cluster.specs.Following.{IsSaidOf}
use Rattle.audit_faults.specs.declared.fault.WatchFault.{WatchFault}
use Rattle.kept_file.specs.declared.file.KeptFile.{KeptFile}
use Rattle.kept_fold.specs.Folds.{AreFolded}
use Rattle.kept_folder.specs.Reads.{most_vnodes}
use Rattle.kept_folder.specs.Seals.{sealed}
use Rattle.kept_folder.specs.Starts.{HasStart}
use Rattle.kept_folder.specs.Steps.{ArePut, AreFilesOf, Put, Step}
use Rattle.journal.specs.Logs.{Log}
use Rattle.kept_hooks.specs.Lists.{Listed}
use Rattle.kept_hooks.specs.Spelling.{all_spelled}
use Rattle.kept_restore.specs.Beginnings.{BeginWithFiles, HaveLoaded, fronts_to}
use Rattle.cluster_stamps.specs.declared.view.View.{View}
use Rattle.server_one_thread.specs.Passes.{Passing}
use Rattle.server_store.specs.View.{StoreView}
use Rattle.dvvstore.specs.Visits.{AfterAnswers, HasAll}
use Rattle.dvvstore.specs.declared.crew.running.Served.{Served}
use Rattle.dvvstore.specs.declared.keeper.Begun.{Begun}
use Rattle.dvvstore.specs.declared.keeper.Door.{Door}
use Rattle.dvvstore.specs.declared.keeper.Door.TheVariants as door
use Rattle.dvvstore.specs.declared.session.Left.{Left}
use Rattle.dvvstore.specs.declared.session.Left.TheVariants.{Kept, Lost}
use Rattle.dvvstore.specs.declared.keeper.Unbegun.{Unbegun}
use Rattle.dvvstore.specs.declared.keeper.Unbegun.TheVariants.{Records, Hooks, Unreadable, NoMemory}

-- how it began was told
abbrev pub HasBegun : Option (List ℕ) → Option (List ℕ) → Type 0
HasBegun before after = (loaded : ℕ) × (bound : List ℕ) × Appends before after (begun loaded bound)

-- how it began was told, where the address was to be bound; who comes to an open lobby was told before
abbrev pub TellsBeginning : {N : Type 0} → Door N → Option (List ℕ) → Option (List ℕ) → Type 0
TellsBeginning (door.Open lobby) before after = Unit {0}
TellsBeginning (door.Closed address) before after = HasBegun before after

-- nothing where a store didn't begin, but that the output may be unwritable
abbrev pub TellsNothing : Unbegun → Option (List ℕ) → Option (List ℕ) → Type 0
TellsNothing Unreadable before after = Unit {0}
TellsNothing NoMemory before after = after ≡ before
TellsNothing (Records unloaded) before after = after ≡ before
TellsNothing (Hooks fault) before after = after ≡ before

-- how a store began, or nothing where it didn't
abbrev pub Tells : {N : Type 0} → Door N → Result Left Unbegun → Option (List ℕ) → Option (List ℕ) → Type 0
Tells door (Ok left) before after = TellsBeginning door before after
Tells door (Err why) before after = TellsNothing why before after

-- what a folder held isn't taken: its records, or the requests of its hooks
abbrev pub IsRefusal : Unbegun → Type 0
IsRefusal Unreadable = ⊥
IsRefusal NoMemory = ⊥
IsRefusal (Records unloaded) = Unit {0}
IsRefusal (Hooks fault) = Unit {0}

-- how it ended was told: how many records were written, or why they weren't
abbrev pub HasEnded : {V : Type 0} → Option (List ℕ) → Option (List ℕ) → Ended V → Type 0
HasEnded before after (ended.Kept said) = (kept : ℕ) × Appends before after (line (codes "kept " ++ decimal kept))
HasEnded before after (ended.Unkept said) = (why : List ℕ) × Appends before after (line (codes "not kept " ++ why))

-- not all of it was kept
abbrev pub IsUnkept : {V : Type 0} → Ended V → Type 0
IsUnkept (ended.Kept said) = ⊥
IsUnkept (ended.Unkept said) = Unit {0}

-- ---- what a store begins with, and what is left of it

-- how many of the first entries of each vnode were there before: none are named where no folder keeps the store
abbrev pub fronts_for : {F : Type 0} → Option F → ℕ → List KeptFile → List ℕ
fronts_for None vnodes files = []
fronts_for (Some folder) vnodes files = fronts_to files vnodes

-- the requests that install and bind hooks, where a folder keeps the store
abbrev pub hooks_for : {F : Type 0} → Option F → List ℕ → Option (List ℕ)
hooks_for None held = None
hooks_for (Some folder) held = Some held

-- so many vnodes, numbered from the first on, have taken over what these files hold, each what is its own by index, each record once and in order; its own pass was
-- told of that, and of nothing else since; and their fronts are the numbers of these records, where a folder keeps the store
abbrev pub HasBegunWith : {F B : Type 0} → Option F → ℕ → ℕ → List KeptFile → Begun B → Type 0
HasBegunWith folder first vnodes files begun =
    (fresh : List View) × HaveLoaded first 0 files fresh begun.spares.items × (vec_len begun.spares ≡ vnodes) × (begun.fronts.items ≡ fronts_for folder vnodes files)
    × (begun.first ≡ first)

-- the journals of the vnodes that a store leaves begin with the merges of what these files hold, each with its own, and what is said of them is said from there on
abbrev pub IsLeftFrom : {F : Type 0} → Option F → ℕ → ℕ → List KeptFile → Served → Type 0
IsLeftFrom folder first vnodes files served =
    BeginWithFiles served.closed.vnodes.items first files vnodes × IsSaidOf (fronts_for folder vnodes files) served.closed.vnodes.items served.closed.said

-- so it is of what is left of a store, where vnodes are
abbrev pub Leaves : {F : Type 0} → Option F → ℕ → ℕ → List KeptFile → Result Left Unbegun → Type 0
Leaves folder first vnodes files (Ok (Kept served)) = IsLeftFrom folder first vnodes files served
Leaves folder first vnodes files (Ok Lost) = Unit {0}
Leaves folder first vnodes files (Err why) = Unit {0}

-- a run of journals goes on from nothing, and where a yes is said of them from these fronts
abbrev pub GoesFrom : List ℕ → Result (Unit {0}) WatchFault → List ℕ → Type 0
GoesFrom fronts (Ok all) begun = (begun ≡ []) ⊎ (begun ≡ fronts)
GoesFrom fronts (Err why) begun = begun ≡ []

module _ {H : Type 0} (finds : H → List ℕ → ImageKind → Result (Option Program) NotSeen → H → Type 0)
    (names : H → List ℕ → ImageKind → Result (Option (List ℕ)) NameFault → H → Type 0) (takes : H → Change → Result Unit HookFault → H → Type 0) where
  -- What is left of a store whose workers began so: each had its visit, in the journals of so many vnodes stands what they were told, each of it once, and each of their
  -- answers tells of these journals, and of the run that they are from the fronts on.
  abbrev pub HasServed : List ℕ → ℕ → (List (StoreView Passing H) → Type 0) → Served → Type 0
  HasServed fronts vnodes Begins served =
      (starts : List (StoreView Passing H)) × Begins starts
      × AfterAnswers finds names takes (GoesFrom fronts served.closed.said) starts served.closed.vnodes.items (λ told. HasAll told served.closed.vnodes.items)
      × (vec_len served.closed.vnodes ≡ vnodes)

  -- so it is, where vnodes are left
  abbrev pub LeavesServed : List ℕ → ℕ → (List (StoreView Passing H) → Type 0) → Result Left Unbegun → Type 0
  LeavesServed fronts vnodes Begins (Ok (Kept served)) = HasServed fronts vnodes Begins served
  LeavesServed fronts vnodes Begins (Ok Lost) = Unit {0}
  LeavesServed fronts vnodes Begins (Err why) = Unit {0}

  -- The same of what a folder held: the start that those numbers belong to has folded its keys, the journals begin with what came of that, and its workers, who began
  -- so, have served from there on.
  abbrev pub IsLeftFolded : {F : Type 0} → Option F → ℕ → ℕ → List KeptFile → (List (StoreView Passing H) → Type 0) → Served → Type 0
  IsLeftFolded folder first vnodes held Begins served =
      (files : List KeptFile) × AreFolded (first / 256) held files × IsLeftFrom folder first vnodes files served × HasServed (fronts_for folder vnodes files) vnodes Begins served

  abbrev pub LeavesFolded : {F : Type 0} → Option F → ℕ → ℕ → List KeptFile → (List (StoreView Passing H) → Type 0) → Result Left Unbegun → Type 0
  LeavesFolded folder first vnodes held Begins (Ok (Kept served)) = IsLeftFolded folder first vnodes held Begins served
  LeavesFolded folder first vnodes held Begins (Ok Lost) = Unit {0}
  LeavesFolded folder first vnodes held Begins (Err why) = Unit {0}

-- ---- what a stop writes

-- the files of vnodes and that of requests
abbrev pub AreFilesPut : {F : Type 0} → (F → Step → F → Type 0) → List Log → Listed → F → F → Type 0
AreFilesPut does vnodes requests old new =
    (requests.whole ≡ true)
    × ((files : List Put) × AreFilesOf 0 vnodes files
    × ArePut does old (files ++ record { name = codes "hooks.requests"; bytes = sealed (all_spelled requests.requests) } ∷ []) new)

module _ {F : Type 0} (finds : F → List ℕ → Option (List ℕ) → Type 0) (does : F → Step → F → Type 0) where
  -- All files of a store that has ended were put: of each of these vnodes what its journal leaves, and the requests that make its hooks what they are, none of which
  -- is lacking; behind them the number of its start is there, and how many vnodes have files.
  abbrev pub ArePutOf : ℕ → List Log → Listed → F → F → Type 0
  ArePutOf number vnodes requests old new =
      (mid : F) × AreFilesPut does vnodes requests old mid × HasStart finds does number (min (length vnodes) most_vnodes) mid new

  -- so it is where all was kept
  abbrev pub Keeps : {V : Type 0} → ℕ → Served → F → F → Ended V → Type 0
  Keeps number served old new (ended.Kept said) = ArePutOf number served.closed.vnodes.items served.requests old new
  Keeps number served old new (ended.Unkept said) = Unit {0}

-- what is left of a store that was served, or that there was no memory for
abbrev pub left_as : {E : Type 0} → Result Served E → Result Left Unbegun
left_as (Ok served) = Ok (Kept served)
left_as (Err why) = Ok Lost
