-- What a registry shows: the program of each name, and the name that is bound to each bucket and kind.
use Rattle.std.specs.Prelude.{◌≡◌, ℕ, List, Option, None, Result, Ok, Err, true, false}
use Rattle.std.specs.Option.{option_map}
use Rattle.std.specs.Map.{lookup}
use Rattle.std.specs.Global.{Global}
use Rattle.std.specs.declared.sync.Arc.{Arc}
use Rattle.std.specs.Arc.{arc_value}
use Rattle.bpf_image.specs.declared.image.ImageKind.{ImageKind}
use Rattle.bpf_verifier.specs.Program.{Program}
use Rattle.hook_registry.specs.declared.bindings.Bindings.{Bindings}
use Rattle.hook_registry.specs.declared.fault.NotSeen.{NotSeen}
use Rattle.hook_registry.specs.declared.fault.HookFault.{HookFault}
use Rattle.hook_registry.specs.declared.fault.HookFault.TheVariants.{NameUnknown, KindDiffers, NoMemory}
use Rattle.hook_registry.specs.Bindings.{bound_if}
use Rattle.hook_registry.specs.Changes.{Change, Install, Remove, Bind, are_fitting, are_known, bound_at, hook_named, is_name, name_after, program_after, program_at}

-- programs under names, and what is bound to buckets
pub record Shown : Type 0 where
  pub programs : List (List ℕ × Arc Program Global)
  pub bindings : List (List ℕ × Bindings)

-- the program under a name
abbrev pub program_in : List (List ℕ × Arc Program Global) → List ℕ → Option Program
program_in programs name = option_map arc_value (lookup (is_name name) programs)

-- the name bound to a bucket and a kind
abbrev pub bound_in : List (List ℕ × Bindings) → List ℕ → ImageKind → Option (List ℕ)
bound_in bindings bucket kind = bound_if (lookup (is_name bucket) bindings) kind

-- the hook of a bucket and a kind
abbrev pub hook_in : Shown → List ℕ → ImageKind → Option Program
hook_in shown bucket kind = hook_named (program_in shown.programs) kind (bound_in shown.bindings bucket kind)

-- a registry shows what a list of changes made
pub record Shows (changes : List Change) (shown : Shown) : Type 0 where
  pub programs : (name : List ℕ) → program_in shown.programs name ≡ program_at changes name
  pub names : (bucket : List ℕ) (kind : ImageKind) → bound_in shown.bindings bucket kind ≡ bound_at changes bucket kind

-- one change more
pub record ChangesBy (old new : Shown) (change : Change) : Type 0 where
  pub programs : (name : List ℕ) → program_in new.programs name ≡ program_after name (program_in old.programs name) change
  pub names : (bucket : List ℕ) (kind : ImageKind) → bound_in new.bindings bucket kind ≡ name_after bucket kind (bound_in old.bindings bucket kind) change

-- what a look-up answered, without where the program lies
abbrev pub programs_of : Result (Option (Arc Program Global)) NotSeen → Result (Option Program) NotSeen
programs_of (Ok hook) = Ok (option_map arc_value hook)
programs_of (Err fault) = Err fault

-- a change that nothing but memory stands in the way of: the name that is given up has a program, and each name that is bound
-- has one of that kind
abbrev pub IsAllowed : Shown → Change → Type 0
IsAllowed shown (Install name program) = Unit {0}
IsAllowed shown (Remove name) = ¬ (program_in shown.programs name ≡ None)
IsAllowed shown (Bind bucket bindings) = (are_known (program_in shown.programs) bindings ≡ true) × (are_fitting (program_in shown.programs) bindings ≡ true)

-- why a change is refused: a name without a program, told before a kind that differs, and these before want of memory; to give a
-- name up takes none
abbrev pub Refuses : Shown → Change → HookFault → Type 0
Refuses shown (Install name program) NameUnknown = ⊥
Refuses shown (Install name program) KindDiffers = ⊥
Refuses shown (Install name program) NoMemory = Unit {0}
Refuses shown (Remove name) NameUnknown = program_in shown.programs name ≡ None
Refuses shown (Remove name) KindDiffers = ⊥
Refuses shown (Remove name) NoMemory = ⊥
Refuses shown (Bind bucket bindings) NameUnknown = are_known (program_in shown.programs) bindings ≡ false
Refuses shown (Bind bucket bindings) KindDiffers = (are_known (program_in shown.programs) bindings ≡ true) × (are_fitting (program_in shown.programs) bindings ≡ false)
Refuses shown (Bind bucket bindings) NoMemory = (are_known (program_in shown.programs) bindings ≡ true) × (are_fitting (program_in shown.programs) bindings ≡ true)

-- a change that is told takes effect, or it is refused and nothing changes
abbrev pub Takes : Shown → Change → Result Unit HookFault → Shown → Type 0
Takes old change (Ok done) new = IsAllowed old change × ChangesBy old new change
Takes old change (Err fault) new = Refuses old change fault × (new ≡ old)
