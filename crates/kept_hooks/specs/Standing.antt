-- What requests make of a registry that has nothing yet.
use Rattle.std.specs.Prelude.{◌≡◌, ℕ, true, List, [], ◌∷◌, Option, Some, None, map, is_some}
use Rattle.bpf_image.specs.declared.image.ImageKind.{ImageKind}
use Rattle.bpf_image.specs.declared.image.ImageKind.TheVariants as kind
use Rattle.kept_hooks.specs.declared.request.Request.{Request}
use Rattle.kept_hooks.specs.declared.request.Request.TheVariants.{Install, Remove, Bind}
use Rattle.kept_hooks.specs.declared.request.Phase.{Phase}
use Rattle.kept_hooks.specs.declared.request.Phase.TheVariants.{PreCommit, Resolver}
use Rattle.bpf_verifier.specs.Program.{Program}
use Rattle.hook_registry.specs.Changes as registry
use Rattle.hook_registry.specs.Changes.{is_kind, of_kind, program_after, program_at, bound_at}
use Rattle.kept_hooks.specs.Lists.{is_for}

-- the kind of the hooks of a phase
abbrev pub kind_of : Phase → ImageKind
kind_of PreCommit = kind.PreCommit
kind_of Resolver = kind.Resolver

module _ (program : List ℕ → Program) where
  -- each image names the phase in which its program runs
  abbrev pub TellsPhases : Type 0
  TellsPhases = (image : List ℕ) (phase : Phase) → is_kind (program image).kind (kind_of phase) ≡ is_for image phase

  -- the change that a request makes
  abbrev pub change_of : Request → registry.Change
  change_of (Install name image) = registry.Install name (program image)
  change_of (Remove name) = registry.Remove name
  change_of (Bind bucket phase name) = registry.Bind bucket ((kind_of phase, Some name) ∷ [])

  abbrev pub changes_of : List Request → List registry.Change
  changes_of requests = map change_of requests

  -- a request that is not refused where names have these programs
  abbrev pub IsLegal : (List ℕ → Option Program) → Request → Type 0
  IsLegal before (Install name image) = Unit {0}
  IsLegal before (Remove name) = is_some (before name) ≡ true
  IsLegal before (Bind bucket phase name) = is_some (of_kind (kind_of phase) (before name)) ≡ true

  -- requests none of which is refused, one after another
  abbrev pub AreLegal : (List ℕ → Option Program) → List Request → Type 0
  AreLegal before [] = Unit {0}
  AreLegal before (r ∷ rs) = IsLegal before r × AreLegal (λ name. program_after name (before name) (change_of r)) rs

  -- requests that come to what these changes came to, none of them refused
  pub record Stands (made : List registry.Change) (requests : List Request) : Type 0 where
    pub programs : (name : List ℕ) → program_at (changes_of requests) name ≡ program_at made name
    pub names : (bucket : List ℕ) (kind : ImageKind) → bound_at (changes_of requests) bucket kind ≡ bound_at made bucket kind
    pub legal : AreLegal (λ name. None) requests
