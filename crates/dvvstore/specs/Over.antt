-- A store that a folder keeps, from what it held to what stands there at the end (this store's profile).
use Rattle.std.specs.Prelude.{◌≡◌, ◌*◌, ◌/◌, ◌<◌, ◌≤◌, ℕ, List, Option, Some, Contains, codes}
use Rattle.audit_cluster.specs.declared.ending.Verdict.{Verdict}
use Rattle.bpf_helpers.specs.declared.sig.Entry.{Entry}
use Rattle.cluster_stamps.specs.declared.view.Size.{Size}
use Rattle.commands.specs.declared.server.Ended.{Ended}
use Rattle.commands.specs.declared.server.Ended.TheVariants as ended
use Rattle.hook_readers.specs.Edits.{Finds, Names}
use Rattle.hook_sharing.specs.Taking.{Takes}
use Rattle.kept_file.specs.Numbers.{all_ids}
use Rattle.kept_file.specs.Placed.{ArePlaced}
use Rattle.kept_file.specs.declared.file.KeptFile.{KeptFile}
use Rattle.kept_folder.specs.Numbers.{start_text}
use Rattle.kept_folder.specs.Reads.{AreAllFiles, IsHeldIn, IsReadAt, most_vnodes}
use Rattle.kept_folder.specs.Seals.{sealed}
use Rattle.kept_folder.specs.Settings.{IsSetBy}
use Rattle.kept_folder.specs.Steps.{IsPut, Step}
use Rattle.kept_folder.specs.declared.opening.Opened.{Opened}
use Rattle.dvvstore.specs.Crews.{by_digest}
use Rattle.dvvstore.specs.Keeping.{ArePutOf, IsLeftFolded}
use Rattle.dvvstore.specs.Visits.{BeginOver}
use Rattle.dvvstore.specs.declared.crew.running.Served.{Served}
use Rattle.dvvstore.specs.declared.network.Said.{Said}

-- what is said of the journals of a store that has ended
abbrev pub ended_says : Ended Said → Verdict
ended_says (ended.Kept said) = said.0
ended_says (ended.Unkept said) = said.0

module _ {F : Type 0} (finds : F → List ℕ → Option (List ℕ) → Type 0) (does : F → Step → F → Type 0) where
  -- A start has read all files of a folder and taken a number, which stands there from then on. No start before had it, nor has an identifier that the files name, and
  -- it is no less than the minute.
  pub record IsOpened (minute : ℕ) (old : F) (opened : Opened) (mid : F) : Type 0 where
    pub read : (index : ℕ) → index < most_vnodes → IsReadAt (finds old) opened.held.files.items index
    pub files : AreAllFiles (finds old) opened.held.logs opened.held.files.items
    pub hooks : IsHeldIn (finds old) (codes "hooks.requests") opened.held.hooks.items
    pub set : (found : Option (List ℕ)) × finds old (codes "settings") found × IsSetBy found opened.held.settings
    pub next : (last : ℕ) → opened.held.last ≡ Some last → last < opened.number
    pub above : (id : ℕ) → Contains (all_ids opened.held.files.items) id → id / 256 < opened.number
    pub least : minute ≤ opened.number
    pub put : IsPut does old (codes "incarnation") (sealed (start_text opened.number opened.held.filed)) mid

  -- A store was kept in a folder. Its start read what the folder held, and so many vnodes, whose identifiers have the start's number, began with all of it, placed and
  -- folded: the journals that are left begin with that, and hold what workers with these tables were told from then on, whose calls are steps of the run that goes on
  -- from there, where a yes is said. Of these vnodes each file was put, and the requests that make their hooks what they are, and of their journals is said what is
  -- said.
  pub record IsKeptOver (minute : ℕ) (tables : List (List Entry)) (old new : F) (said : Verdict) : Type 0 where
    pub opened : Opened
    pub mid : F
    pub opens : IsOpened minute old opened mid
    pub size : Size
    pub first : size.first ≡ opened.number * 256
    pub some : 0 < size.vnodes
    pub many : size.vnodes ≤ 16
    pub placed : List KeptFile
    pub places : ArePlaced (by_digest size.vnodes opened.held.settings.copies) opened.held.files.items placed
    pub served : Served
    pub begins : IsLeftFolded Finds Names Takes (Some mid) size.first size.vnodes placed (BeginOver Takes size opened.held.settings.copies tables (Some opened.held.hooks.items)) served
    pub puts : ArePutOf finds does opened.number served.closed.vnodes.items served.requests mid new
    pub says : said ≡ served.closed.said

  -- so it is of a store that has ended, where all of it was kept
  abbrev pub KeptOver : ℕ → List (List Entry) → F → F → Ended Said → Type 0
  KeptOver minute tables old new (ended.Kept said) = IsKeptOver minute tables old new said.0
  KeptOver minute tables old new (ended.Unkept said) = Unit {0}
