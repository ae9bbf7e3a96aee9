-- What is done beside workers.
use Rattle.std.specs.Prelude.{◌≡◌, ◌+◌, ◌-◌, ◌/◌, ◌^◌, ◌++◌, ◌∷◌, ℕ, All, List, [], flat_map, length, min, sum, Option, Result, Ok, codes, true}
use Rattle.journal.specs.Logs.{Log}
use Rattle.key_state.specs.declared.content.Key.{Key}
use Rattle.record_codec.specs.declared.record.Record.{Record}
use Rattle.vnode.specs.declared.fault.PartFault.{PartFault}
use Rattle.cluster_stamps.specs.declared.request.Reply.{Reply}
use Rattle.cluster_stamps.specs.declared.request.Reply.TheVariants as reply
use Rattle.cluster_stamps.specs.declared.request.Request.TheVariants as request
use Rattle.cluster_stamps.specs.declared.view.News.TheVariants as news
use Rattle.cluster_stamps.specs.declared.view.Told.{Told}
use Rattle.cluster_stamps.specs.declared.view.View.{View}
use Rattle.cluster_vnode.specs.Gathers.{IsGathered}
use Rattle.audit_cluster.specs.Following.{IsOfWatch}
use Rattle.audit_cluster.specs.Moments.{AreMadeBy}
use Rattle.kept_file.specs.Files.{IsFileOf}
use Rattle.kept_folder.specs.Starts.{HasStart}
use Rattle.kept_folder.specs.Reads.{name_of}
use Rattle.kept_folder.specs.Seals.{sealed}
use Rattle.kept_folder.specs.Steps.{IsPut, Step}
use Rattle.kept_hooks.specs.Lists.{Listed}
use Rattle.kept_hooks.specs.Spelling.{all_spelled}
use Rattle.dvvstore.specs.Reads.{IsRead}

-- this vnode was asked for the state of a key, whatever it answered
abbrev pub IsReadOf : ℕ → Told → Type 0
IsReadOf vnode t = (t.vnode ≡ vnode) × ((key : Key) × (came : Result Reply PartFault) × (t.news ≡ news.Call (request.Read key) came))

-- a pass was told more, behind what it was told before: what one vnode answered to reads
abbrev pub Reads : ℕ → View → View → Type 0
Reads vnode old new = (more : List Told) × (new.told ≡ old.told ++ more) × All (IsReadOf vnode) more

-- so was each of passes, each of a vnode of its own: these are numbered from the first on
abbrev pub AllRead : ℕ → List View → List View → Type 0
AllRead first [] [] = Unit {0}
AllRead first [] (new ∷ rest) = ⊥
AllRead first (old ∷ others) [] = ⊥
AllRead first (old ∷ others) (new ∷ rest) = Reads first old new × AllRead (first + 1) others rest

-- this is what spare passes were told in the end, of which this had been told before: reads alone came behind it
abbrev pub AreSpared : ℕ → List View → List Told → Type 0
AreSpared first [] told = told ≡ []
AreSpared first (spare ∷ spares) told =
    (more rest : List Told) × All (IsReadOf first) more × (told ≡ (spare.told ++ more) ++ rest) × AreSpared (first + 1) spares rest

-- what was told is this, what spare passes were told, what was only read, so that a log has it, and what a watch was told, which has vnodes hand out and start again and
-- does nothing else
abbrev pub WithAsides : ℕ → List View → (List Told → Type 0) → List Told → Type 0
WithAsides first spares Says told =
    (spared read watched : List Told) × AreSpared first spares spared × All IsRead read × All IsOfWatch watched × Says (told ++ (spared ++ (read ++ watched)))

-- all that is gathered in these journals, each of it once
abbrev pub AreGathered : ℕ → List Told → List View → List Log → Type 0
AreGathered first told spares logs = WithAsides first spares (λ all. IsGathered all logs) told

-- the entries of these fronts of journals were made by calls of which spare passes had been told
abbrev pub AreBrought : List View → List Log → List ℕ → Type 0
AreBrought spares logs fronts = AreMadeBy (flat_map (λ p. p.told) spares) fronts logs

-- ---- snapshots

-- each record is that of a read that was told: of the key that was asked for, and the state that the vnode answered at this place of its journal
abbrev pub AreReadBy : List Told → List Record → Type 0
AreReadBy [] [] = Unit {0}
AreReadBy [] (r ∷ records) = ⊥
AreReadBy (t ∷ told) [] = ⊥
AreReadBy (t ∷ told) (r ∷ records) = (t.vnode ≡ r.from) × (t.at ≡ r.at) × (t.news ≡ news.Call (request.Read r.key) (Ok (reply.State r.state))) × AreReadBy told records

-- A vnode's file was put, under the name of its index: it holds a record of each read of which a pass was told meanwhile, which are so many, in order.
abbrev pub IsKeptBy : {F : Type 0} → (F → Step → F → Type 0) → F → ℕ → ℕ → View → View → ℕ → Type 0
IsKeptBy {F} does folder id index old new count =
    (more : List Told) × (new.told ≡ old.told ++ more) × (records : List Record) × AreReadBy more records × (count ≡ length records)
    × ((bytes : List ℕ) × IsFileOf id records bytes × ((after : F) × IsPut does folder (name_of index) bytes after))

module _ {F : Type 0} (does : F → Step → F → Type 0) (folder : F) (first : ℕ) where
  -- so was that of each vnode from an index on, each by a pass of its own; they are numbered from the first on
  abbrev pub AreKeptBy : ℕ → List View → List View → List ℕ → Type 0
  AreKeptBy index [] [] [] = Unit {0}
  AreKeptBy index [] [] (count ∷ counts) = ⊥
  AreKeptBy index [] (new ∷ rest) counts = ⊥
  AreKeptBy index (old ∷ others) [] counts = ⊥
  AreKeptBy index (old ∷ others) (new ∷ rest) [] = ⊥
  AreKeptBy index (old ∷ others) (new ∷ rest) (count ∷ counts) = IsKeptBy does folder (first + index) index old new count × AreKeptBy (index + 1) others rest counts

  -- the files of all vnodes were put, and so many keys are told: as many as they hold together, as far as that can be told
  abbrev pub AreAllKept : List View → List View → ℕ → Type 0
  AreAllKept old new keys = (counts : List ℕ) × AreKeptBy 0 old new counts × (keys ≡ min (sum counts) (2 ^ 64 - 1))

-- these are the requests that make hooks what they are, of which none is lacking
abbrev pub IsWholeList : List ℕ → Type 0
IsWholeList held = (requests : Listed) × (requests.whole ≡ true) × (held ≡ all_spelled requests.requests)

-- they were put
abbrev pub AreListed : {F : Type 0} → (F → Step → F → Type 0) → F → F → Type 0
AreListed does old new = (held : List ℕ) × IsWholeList held × IsPut does old (codes "hooks.requests") (sealed held) new

module _ {F : Type 0} (finds : F → List ℕ → Option (List ℕ) → Type 0) (does : F → Step → F → Type 0) where
  -- so they were behind the files of so many vnodes, and the number of the start is there, with how many have files
  abbrev pub IsRestKept : ℕ → ℕ → F → F → Type 0
  IsRestKept number filed old new = (mid : F) × AreListed does old mid × HasStart finds does number filed mid new

  -- a snapshot of vnodes, numbered from the first on, by these passes: all files were put, and so many keys are told
  abbrev pub IsKept : ℕ → F → List View → List View → F → ℕ → Type 0
  IsKept first folder old new after keys = AreAllKept does folder first old new keys × IsRestKept (first / 256) (length old) folder after
