-- What is done to the files of a folder, step by step, and how a file is replaced (this store's profile).
use Rattle.std.specs.Prelude.{◌≡◌, ℕ, ◌+◌, List, [], ◌∷◌, ◌++◌, All, Option, codes, length}
use Rattle.std.specs.Io.KnownBytes.{Appends}
use Rattle.journal.specs.Logs.{Log}
use Rattle.journal.specs.Replay.{IsReplay}
use Rattle.vnode.specs.Keys.{AreKeys}
use Rattle.vnode.specs.States.{keys_of}
use Rattle.vnode.specs.declared.steps.Copied.{Copied}
use Rattle.kept_file.specs.Files.{IsFileOf}
use Rattle.kept_file.specs.Snapshots.{records_held}
use Rattle.kept_folder.specs.Reads.{name_of}

-- a step: a file is begun anew under a name, a file is forced to the device, one is given another name, or the names are forced; a file is told by its bytes,
-- where they are known
pub data Step : Type 0 where
  Begun : (name : List ℕ) (held : Option (List ℕ)) → Step
  Forced : (held : Option (List ℕ)) → Step
  Renamed : (from to : List ℕ) → Step
  NamesForced : Step

-- the file beside another, which is written before it takes the other's place
abbrev pub part_name : List ℕ → List ℕ
part_name name = name ++ codes ".part"

-- bytes under a name
pub record Put : Type 0 where
  pub name : List ℕ
  pub bytes : List ℕ

-- bytes are the file of a vnode: of each of its keys, with what its journal leaves there
abbrev pub IsFileOfAll : Log → ℕ → List ℕ → Type 0
IsFileOfAll log count bytes = (held : List Copied) × AreKeys log (keys_of held) × All (λ c. IsReplay log.entries c.key c.state) held × (count ≡ length held)
    × IsFileOf log.vnode (records_held log.vnode (length log.entries) held) bytes

-- each file is that of a vnode, under the name of its index
abbrev pub AreFilesOf : ℕ → List Log → List Put → Type 0
AreFilesOf index [] [] = Unit {0}
AreFilesOf index [] (put ∷ puts) = ⊥
AreFilesOf index (log ∷ logs) [] = ⊥
AreFilesOf index (log ∷ logs) (put ∷ puts) = (put.name ≡ name_of index) × ((count : ℕ) × IsFileOfAll log count put.bytes) × AreFilesOf (index + 1) logs puts

module _ {F : Type 0} (does : F → Step → F → Type 0) where
  -- a file with these bytes was forced and given another name, by these steps and no other
  pub record IsNamed (old : F) (held : Option (List ℕ)) (from to : List ℕ) (new : F) : Type 0 where
    pub forced : F
    pub named : F
    pub forces : does old (Forced held) forced
    pub renames : does forced (Renamed from to) named
    pub forces_names : does named NamesForced new

  -- bytes were put under a name, by these steps and no other: a file beside it was begun, had these bytes more than then when it was forced, and was given the name
  pub record IsPut (old : F) (name bytes : List ℕ) (new : F) : Type 0 where
    pub first : Option (List ℕ)
    pub last : Option (List ℕ)
    pub begun : F
    pub begins : does old (Begun (part_name name) first) begun
    pub written : Appends first last bytes
    pub names : IsNamed begun last (part_name name) name new

  -- files were put one after another, each of these bytes under this name
  abbrev pub ArePut : F → List Put → F → Type 0
  ArePut old [] new = new ≡ old
  ArePut old (put ∷ puts) new = (mid : F) × IsPut old put.name put.bytes mid × ArePut mid puts new
