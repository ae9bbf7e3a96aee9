-- The file of a vnode's records that a folder keeps: the records of a dump, and one more that ends it (this store's profile).
use Rattle.std.specs.Prelude.{◌≡◌, ℕ, ◌%◌, ◌==◌, Bool, false, if◌then◌else◌, List, [], ◌∷◌, ◌++◌, length}
use Rattle.key_state.specs.declared.content.Key.{Key}
use Rattle.key_state.specs.State.{empty}
use Rattle.record_codec.specs.declared.record.Record.{Record}
use Rattle.record_codec.specs.Lists.{AreSpelledBy, FaultAt}
use Rattle.kept_file.specs.declared.file.KeptFile.{KeptFile}
use Rattle.kept_file.specs.declared.file.Source.{Source}
use Rattle.kept_file.specs.declared.file.Source.TheVariants as source
use Rattle.kept_file.specs.declared.file.Unkept.{Unkept}
use Rattle.kept_file.specs.declared.file.Unkept.TheVariants as unkept

-- the key of the record that ends a file: bucket `end`, key `end`
abbrev pub end_key : Key
end_key = record { bucket = 101 ∷ 110 ∷ 100 ∷ []; key = 101 ∷ 110 ∷ 100 ∷ [] }

-- the record that ends a file: its state is empty, as no other's is, and its place tells how many stand before it
abbrev pub end_of : ℕ → ℕ → Record
end_of from count = record { key = end_key; from = from; at = count; state = empty }

-- the bytes are the whole file of these records of the vnode with this identifier
abbrev pub IsFileOf : ℕ → List Record → List ℕ → Type 0
IsFileOf from records bytes = AreSpelledBy (records ++ end_of from (length records) ∷ []) bytes

-- the bytes are the whole file of a vnode, whose identifier is told, and these are its records
abbrev pub IsVnodesFile : KeptFile → List ℕ → Type 0
IsVnodesFile file bytes = (id : ℕ) × (file.from ≡ source.Vnode id) × IsFileOf id file.records.items bytes

-- records of which the last doesn't end a file
abbrev pub HaveNoEnd : List Record → Type 0
HaveNoEnd records = (front : List Record) (from : ℕ) → records ≡ front ++ end_of from (length front) ∷ [] → ⊥

-- why bytes are no file
abbrev pub IsUnkept : List ℕ → Unkept → Type 0
IsUnkept bytes (unkept.Faulty place fault) = FaultAt bytes place fault
IsUnkept bytes unkept.NoEnd = (records : List Record) × AreSpelledBy records bytes × HaveNoEnd records
IsUnkept bytes unkept.NoMemory = Unit {0}

-- a file is that of the vnode with an index, which is the lower 8 bits of the vnode's identifier; a log is no vnode's
abbrev pub is_of : Source → ℕ → Bool
is_of (source.Vnode id) index = (id % 256) == index
is_of (source.Log number) index = false

-- the records of the vnode with an index: those of the first file that is this vnode's; none where there is no such file
abbrev pub records_at : List KeptFile → ℕ → List Record
records_at [] index = []
records_at (file ∷ files) index = if is_of file.from index then file.records.items else records_at files index
