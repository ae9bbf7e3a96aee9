-- What a folder says of a start (this store's profile).
use Rattle.std.specs.Prelude.{◌≡◌, ◌⊎◌, ℕ, List, Option, Some, codes}
use Rattle.kept_folder.specs.Numbers.{start_text}
use Rattle.kept_folder.specs.Seals.{sealed}
use Rattle.kept_folder.specs.Steps.{IsPut, Step}
use Rattle.kept_folder.specs.declared.opening.OpenFault.{OpenFault}
use Rattle.kept_folder.specs.declared.opening.OpenFault.TheVariants.{Missing}

module _ {F : Type 0} (finds : F → List ℕ → Option (List ℕ) → Type 0) (does : F → Step → F → Type 0) where
  -- the number of a start is there, and that so many vnodes have files: it stood there, or was put there
  abbrev pub HasStart : ℕ → ℕ → F → F → Type 0
  HasStart number filed old new =
      (finds old (codes "incarnation") (Some (sealed (start_text number (Some filed)))) × (new ≡ old))
      ⊎ IsPut does old (codes "incarnation") (sealed (start_text number (Some filed))) new

-- a file of records is missing, the one with this name
abbrev pub IsMissing : List ℕ → OpenFault → Type 0
IsMissing name (Missing told) = told.now ≡ name
IsMissing name other = ⊥
