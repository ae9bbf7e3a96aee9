-- What all passes of a crew were told.
use Rattle.std.proofs.Common.{◌≡◌, ◌++◌, ◌∷◌, ◌+◌, ◌<◌, [], ℕ, zero, suc, List, ap, arith, length, refl, subst, sym, ◌∙◌, append_assoc, flat_map}
use Rattle.std.specs.List.{All}
use Rattle.std.proofs.lemmas.Grind.{flat_map-append}
use Rattle.std.proofs.lemmas.List.Elements.{All-append, All-head, All-nil, All-tail}
use Rattle.audit_cluster.specs.Following.{IsOfWatch}
use Rattle.cluster_stamps.specs.declared.view.Told.{Told}
use Rattle.cluster_stamps.specs.declared.view.View.{View}
use Rattle.journal.specs.Logs.{Log}
use Rattle.cluster_vnode.specs.Gathers.{IsGathered}
use Rattle.kept_file.specs.Files.{records_at}
use Rattle.kept_file.specs.declared.file.KeptFile.{KeptFile}
use Rattle.kept_restore.specs.Beginnings.{BeginsWith, HaveLoaded}
use Rattle.kept_restore.specs.Loads.{HasLoaded}
use Rattle.record_codec.specs.declared.record.Record.{Record}
use Rattle.dvvstore.specs.Asides.{AllRead, AreGathered, AreSpared, WithAsides}
use Rattle.dvvstore.specs.Reads.{IsRead}

-- what passes were told
abbrev pub all_told : List View → List Told
all_told passes = flat_map (λ p. p.told) passes

-- what all passes were told is what some were told, and more
pub told_before : (passes all new : List View) (rest : List Told) → all ≡ passes ++ new → all_told all ++ rest ≡ all_told passes ++ (all_told new ++ rest)
told_before passes all new rest is =
    ap (λ (ts : List Told). ts ++ rest) (ap all_told is ∙ flat_map-append (λ p. p.told) passes new) ∙ append_assoc (all_told passes) (all_told new) rest

-- what spare passes were told, which only read
spared : (first : ℕ) (old new : List View) → AllRead first old new → AreSpared first old (all_told new)
spared first [] [] all = refl
spared first [] (new ∷ rest) all = absurd all
spared first (old ∷ others) [] all = absurd all
spared first (old ∷ others) (new ∷ rest) ((more, is, reads), all) =
    (more, all_told rest, reads, ap (λ (ts : List Told). ts ++ all_told rest) is, spared (first + 1) others rest all)

-- what passes were told that only read
pub all_only_read : (asides : List View) → All (λ (p : View). All IsRead p.told) asides → All IsRead (all_told asides)
all_only_read [] reads = All-nil IsRead
all_only_read (aside ∷ asides) reads =
    All-append IsRead aside.told (all_told asides) (All-head (λ (p : View). All IsRead p.told) aside asides reads)
    (all_only_read asides (All-tail (λ (p : View). All IsRead p.told) aside asides reads))

-- what is said of all that passes and a watch were told
pub with_asides : (first : ℕ) (old new : List View) (Says : List Told → Type 0) (passes asides all : List View) (watched : List Told) → all ≡ passes ++ (new ++ asides) → AllRead first old new
    → All IsRead (all_told asides) → All IsOfWatch watched → Says (all_told all ++ watched) → WithAsides first old Says (all_told passes)
with_asides first old new Says passes asides all watched is reads only its says = (
  all_told new,
  all_told asides,
  watched,
  spared first old new reads,
  only,
  its,
  subst Says (told_before passes all (new ++ asides) watched is ∙ ap (λ (ts : List Told). all_told passes ++ ts) (told_before new (new ++ asides) asides watched refl)) says,
)

-- ---- what the spare passes had been told

-- the law of loads, as `kept_restore` has it
abbrev pub LoadsStand : Type 0
LoadsStand = (before after : List Told) (old new : View) (logs : List Log) (id : ℕ) (records : List Record) → IsGathered (before ++ new.told ++ after) logs → HasLoaded old new id records → BeginsWith logs id records

parts : (front a more rest watched : List Told) → front ++ (((a ++ more) ++ rest) ++ watched) ≡ front ++ a ++ (more ++ (rest ++ watched))
parts front a more rest watched =
    ap (λ (ts : List Told). front ++ ts) (append_assoc (a ++ more) rest watched ∙ append_assoc a more (rest ++ watched)) ∙ sym (append_assoc front a (more ++ (rest ++ watched)))

behind : (front a rest watched : List Told) → front ++ ((a ++ rest) ++ watched) ≡ (front ++ a) ++ (rest ++ watched)
behind front a rest watched = ap (λ (ts : List Told). front ++ ts) (append_assoc a rest watched) ∙ sym (append_assoc front a (rest ++ watched))

begun_at : (logs : List Log) (files : List KeptFile) (first k n : ℕ) → k ≡ n → BeginsWith logs (first + k) (records_at files k) → BeginsWith logs (first + n) (records_at files n)
begun_at logs files first k n is begins = subst (λ (m : ℕ). BeginsWith logs (first + m) (records_at files m)) is begins

spared_at : (spares : List View) (told : List Told) (k n : ℕ) → k ≡ n → AreSpared k spares told → AreSpared n spares told
spared_at spares told k n is are = subst (λ (m : ℕ). AreSpared m spares told) is are

-- where spare passes were told what vnodes have taken over, the journals of these begin with it
pub each_begins : (stand : LoadsStand) (logs : List Log) (files : List KeptFile) (watched : List Told) (first index : ℕ) (front all spared : List Told) (olds spares : List View) → HaveLoaded first index files olds spares
    → AreSpared (first + index) spares spared → all ≡ front ++ (spared ++ watched) → IsGathered all logs → (k : ℕ) → k < length spares → BeginsWith logs (first + (index + k)) (records_at files (index + k))
each_begins stand logs files watched first index front all spared olds [] loaded told is gathered k lt = absurd (omega (arith, lt))
each_begins stand logs files watched first index front all spared [] (new ∷ spares) loaded told is gathered k lt = absurd loaded
each_begins stand logs files watched first index front all spared (old ∷ olds) (new ∷ spares) (one, loaded) (more, rest, reads, parted, told) is gathered zero lt =
    let split : all ≡ front ++ new.told ++ (more ++ (rest ++ watched)) = is ∙ (ap (λ (ts : List Told). front ++ (ts ++ watched)) parted ∙ parts front new.told more rest watched) in
    begun_at logs files first index (index + 0) (omega arith)
    (stand front (more ++ (rest ++ watched)) old new logs (first + index) (records_at files index) (subst (λ (ts : List Told). IsGathered ts logs) split gathered) one)
each_begins stand logs files watched first index front all spared (old ∷ olds) (new ∷ spares) (one, loaded) (more, rest, reads, parted, told) is gathered (suc k) lt =
    let split : all ≡ (front ++ (new.told ++ more)) ++ (rest ++ watched) = is ∙ (ap (λ (ts : List Told). front ++ (ts ++ watched)) parted ∙ behind front (new.told ++ more) rest watched) in
    begun_at logs files first ((index + 1) + k) (index + suc k) (omega arith)
    (each_begins stand logs files watched first (index + 1) (front ++ (new.told ++ more)) all rest olds spares loaded (spared_at spares rest ((first + index) + 1) (first + (index + 1)) (omega arith) told) split gathered k (omega (arith, lt)))

-- so do all journals that are left
pub all_begin : (stand : LoadsStand) (logs : List Log) (files : List KeptFile) (first vnodes : ℕ) (told : List Told) (olds spares : List View) → length spares ≡ vnodes → HaveLoaded first 0 files olds spares
    → AreGathered first told spares logs → (k : ℕ) → k < vnodes → BeginsWith logs (first + k) (records_at files k)
all_begin stand logs files first vnodes told olds spares many loaded (spared, read, watched, are, only, its, gathered) k lt =
    begun_at logs files first (0 + k) k (omega arith)
    (each_begins stand logs files (read ++ watched) first 0 told (told ++ (spared ++ (read ++ watched))) spared olds spares loaded (spared_at spares spared first (first + 0) (omega arith) are) refl gathered k (omega (arith, lt, many)))
