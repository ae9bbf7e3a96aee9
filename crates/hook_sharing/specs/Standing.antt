-- All changes so far of a registry that threads share, and those that are published.
use Rattle.std.specs.Prelude.{◌≡◌, ◌++◌, ◌∷◌, [], List, Result, Ok, Err}
use Rattle.hook_registry.specs.declared.fault.HookFault.{HookFault}
use Rattle.hook_registry.specs.declared.fault.HookFault.TheVariants.{NameUnknown, KindDiffers, NoMemory}
use Rattle.hook_registry.specs.Changes.{Change}
use Rattle.hook_registry.specs.Tables as registry
use Rattle.hook_registry.specs.Tables.{Shown, Shows}

pub record Standing : Type 0 where
  pub made : List Change
  pub published : List Change

-- one change more, which isn't published yet
abbrev pub added : Standing → Change → Standing
added old change = record { made = old.made ++ change ∷ []; published = old.published }

-- a change that a registry allows which shows all changes so far, published or not
abbrev pub IsAllowed : List Change → Change → Type 0
IsAllowed made change = (shown : Shown) × Shows made shown × registry.IsAllowed shown change

-- a registry that shows all changes so far, published or not, refuses the change so
abbrev pub IsRefused : List Change → Change → HookFault → Type 0
IsRefused made change fault = (shown : Shown) × Shows made shown × registry.Refuses shown change fault

-- why a change is refused: as such a registry refuses it, and for want of memory where it is allowed
abbrev pub RefusesAfter : List Change → Change → HookFault → Type 0
RefusesAfter made change NameUnknown = IsRefused made change NameUnknown
RefusesAfter made change KindDiffers = IsRefused made change KindDiffers
RefusesAfter made change NoMemory = IsAllowed made change

-- a change is added, or it is refused and nothing changes
abbrev pub Takes : Standing → Change → Result Unit HookFault → Standing → Type 0
Takes old change (Ok done) new = IsAllowed old.made change × (new ≡ added old change)
Takes old change (Err fault) new = RefusesAfter old.made change fault × (new ≡ old)
