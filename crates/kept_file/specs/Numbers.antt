-- Which starts' numbers records name (this store's profile): an identifier's number is its upper 24 bits.
use Rattle.std.specs.Prelude.{◌≡◌, ℕ, ◌+◌, ◌/◌, ◌⊎◌, max, List, [], ◌∷◌, ◌++◌, map, Contains, Option, None, Some}
use Rattle.std.specs.List.{flat_map}
use Rattle.dvv.specs.declared.Dot.{Dot}
use Rattle.record_codec.specs.declared.record.Record.{Record}
use Rattle.kept_file.specs.declared.file.KeptFile.{KeptFile}
use Rattle.kept_file.specs.declared.file.Source.{Source}
use Rattle.kept_file.specs.declared.file.Source.TheVariants as source

-- the identifiers that a record names: its vnode's, and those that its clock counts
abbrev pub ids_of : Record → List ℕ
ids_of r = r.from ∷ map (λ (entry : Dot). entry.vnode) r.state.clock

-- the identifier of the vnode that a file is of; a log is no vnode's
abbrev pub source_ids : Source → List ℕ
source_ids (source.Vnode id) = id ∷ []
source_ids (source.Log number) = []

-- those that a file names
abbrev pub ids_in : KeptFile → List ℕ
ids_in file = source_ids file.from ++ flat_map ids_of file.records.items

abbrev pub all_ids : List KeptFile → List ℕ
all_ids files = flat_map ids_in files

-- a number was named: by the last start, or by a file
abbrev pub IsNamed : Option ℕ → List KeptFile → ℕ → Type 0
IsNamed last files number = (last ≡ Some number) ⊎ ((id : ℕ) × Contains (all_ids files) id × (id / 256 ≡ number))

-- one above the numbers of identifiers, and no less than a number
abbrev pub above : ℕ → List ℕ → ℕ
above least [] = least
above least (id ∷ ids) = above (max least (id / 256 + 1)) ids

-- the number after that of the last start, if there was one
abbrev pub after : Option ℕ → ℕ
after None = 0
after (Some last) = last + 1
