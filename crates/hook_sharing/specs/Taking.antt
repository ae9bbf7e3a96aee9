-- What a change of hooks does to what a worker knows of a registry that several workers change (this store's profile).
use Rattle.std.specs.Prelude.{◌≡◌, ◌++◌, ◌∷◌, [], List, Result, Ok, Err}
use mathlib.Core.List.{IsPrefix}
use Rattle.hook_registry.specs.declared.fault.HookFault.{HookFault}
use Rattle.hook_registry.specs.Changes.{Change}
use Rattle.hook_sharing.specs.Standing.{IsAllowed, RefusesAfter}

-- a change that all changes so far allow is the last that the worker knows of from then on; or it is refused, and the worker knows what it knew
abbrev pub Judged : List Change → List Change → Change → Result Unit HookFault → List Change → Type 0
Judged made old change (Ok done) new = IsAllowed made change × (new ≡ made ++ change ∷ [])
Judged made old change (Err fault) new = RefusesAfter made change fault × (new ≡ old)

-- a change is judged by all changes so far, published or not, which begin with all that the worker knew
abbrev pub Takes : List Change → Change → Result Unit HookFault → List Change → Type 0
Takes old change result new = (made : List Change) × IsPrefix old made × Judged made old change result new
