-- The hooks of a store as the list of the changes that were made to them (this store's profile; Riak KV documentation, bucket properties).
use Rattle.std.specs.Prelude.{◌≡◌, ℕ, List, [], ◌∷◌, ◌++◌, Option, None, Result, Ok, Err, IfOk, MatchResult}
use Rattle.bpf_image.specs.declared.image.ImageKind.{ImageKind}
use Rattle.bpf_verifier.specs.Program.{Program}
use Rattle.hook_registry.specs.declared.fault.NotSeen.{NotSeen}
use Rattle.hook_registry.specs.declared.fault.NameFault.{NameFault}
use Rattle.hook_registry.specs.declared.fault.NameFault.TheVariants as name_fault
use Rattle.hook_registry.specs.declared.fault.HookFault.{HookFault}
use Rattle.hook_registry.specs.declared.fault.HookFault.TheVariants.{NameUnknown, KindDiffers, NoMemory}
use Rattle.hook_registry.specs.Changes.{Change, Install, Remove, Bind, AreAllowed, AreRefused, bound_at, hook_at, program_at}

-- a look-up finds the hook of the changes so far, or it can't be shared now
abbrev pub FindsAt : List Change → List ℕ → ImageKind → Result (Option Program) NotSeen → List Change → Type 0
FindsAt changes bucket kind found after = (after ≡ changes) × IfOk found (λ hook. hook ≡ hook_at changes bucket kind)

-- the name that is told is the one that the changes so far bound, or memory lacks for it
abbrev pub NamesAt : List Change → List ℕ → ImageKind → Result (Option (List ℕ)) NameFault → List Change → Type 0
NamesAt changes bucket kind named after = (after ≡ changes) × MatchResult named (λ name. name ≡ bound_at changes bucket kind) (λ fault. fault ≡ name_fault.NoMemory)

-- after the changes so far nothing but memory stands in the way of one more: the name that is given up has a program, and each
-- name that is bound has one of that kind
abbrev pub AllowsAt : List Change → Change → Type 0
AllowsAt changes (Install name program) = Unit {0}
AllowsAt changes (Remove name) = ¬ (program_at changes name ≡ None)
AllowsAt changes (Bind bucket bindings) = AreAllowed (program_at changes) bindings

-- why one more change is refused after those so far
abbrev pub RefusesAt : List Change → Change → HookFault → Type 0
RefusesAt changes (Remove name) NameUnknown = program_at changes name ≡ None
RefusesAt changes (Bind bucket bindings) NameUnknown = AreRefused (program_at changes) bindings NameUnknown
RefusesAt changes (Bind bucket bindings) KindDiffers = AreRefused (program_at changes) bindings KindDiffers
RefusesAt changes (Remove name) NoMemory = ⊥
RefusesAt changes change NoMemory = AllowsAt changes change
RefusesAt changes change fault = ⊥

-- a change that is told comes behind those so far, or it is refused and they stay as they are
abbrev pub TakesAt : List Change → Change → Result Unit HookFault → List Change → Type 0
TakesAt changes change (Ok done) after = AllowsAt changes change × (after ≡ changes ++ change ∷ [])
TakesAt changes change (Err fault) after = RefusesAt changes change fault × (after ≡ changes)
