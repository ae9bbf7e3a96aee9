-- What the vnodes of a cluster begin with that take over what files hold (this store's profile).
use Rattle.std.specs.Prelude.{◌≡◌, ◌≢◌, ◌<◌, ℕ, zero, suc, ◌+◌, List, [], ◌∷◌, ◌++◌, length, Contains}
use Rattle.world.specs.Records.{AreMergesOf}
use Rattle.journal.specs.Entry.{Entry}
use Rattle.journal.specs.Logs.{Log}
use Rattle.kept_file.specs.Files.{records_at}
use Rattle.kept_file.specs.declared.file.KeptFile.{KeptFile}
use Rattle.record_codec.specs.declared.record.Record.{Record}
use Rattle.kept_restore.specs.Loads.{HasLoaded}
use Rattle.cluster_stamps.specs.declared.view.View.{View}

-- how many records each of so many vnodes begins with, by index
abbrev pub fronts_to : List KeptFile → ℕ → List ℕ
fronts_to files zero = []
fronts_to files (suc n) = fronts_to files n ++ length (records_at files n) ∷ []

-- of vnodes, numbered from the first on, each from this index on has merged its records in order, from the first entry of its journal on: its own pass was told of
-- that, and of nothing else
abbrev pub HaveLoaded : ℕ → ℕ → List KeptFile → List View → List View → Type 0
HaveLoaded first index files [] [] = Unit {0}
HaveLoaded first index files [] (new ∷ rest) = ⊥
HaveLoaded first index files (old ∷ others) [] = ⊥
HaveLoaded first index files (old ∷ others) (new ∷ rest) = HasLoaded old new (first + index) (records_at files index) × HaveLoaded first (index + 1) files others rest

-- of these journals that of the vnode with this identifier begins with the merges of these records, if there are any, each once and in order
abbrev pub BeginsWith : List Log → ℕ → List Record → Type 0
BeginsWith logs id records =
    records ≢ [] → (log : Log) × Contains logs log × (log.vnode ≡ id) × (es rest : List Entry) × AreMergesOf es records × (log.entries ≡ es ++ rest)

-- so do those of so many vnodes, numbered from the first on, each with the records that are its own by index
abbrev pub BeginWithFiles : List Log → ℕ → List KeptFile → ℕ → Type 0
BeginWithFiles logs first files vnodes = (index : ℕ) → index < vnodes → BeginsWith logs (first + index) (records_at files index)
