-- A registry of hooks as the list of the changes that made it (this store's profile; Riak KV documentation, pre-commit hooks in bucket properties).
use Rattle.std.specs.Prelude.{◌≡◌, ℕ, Bool, true, false, List, Option, Some, None, if◌then◌else◌, is_some}
use Rattle.std.specs.List.{fold, list_all}
use Rattle.std.specs.Ordering.{nat_cmp, is_eq}
use Rattle.std.specs.Cmp.Lexicographic.{slice_cmp}
use Rattle.bpf_image.specs.declared.image.ImageKind.{ImageKind}
use Rattle.bpf_image.specs.declared.image.ImageKind.TheVariants.{Plain, PreCommit, Resolver}
use Rattle.bpf_verifier.specs.Program.{Program}
use Rattle.hook_registry.specs.declared.fault.HookFault.{HookFault}
use Rattle.hook_registry.specs.declared.fault.HookFault.TheVariants.{NameUnknown, KindDiffers, NoMemory}

-- two names are one, byte by byte
abbrev pub is_name : List ℕ → List ℕ → Bool
is_name a b = is_eq (slice_cmp nat_cmp a b)

abbrev pub is_kind : ImageKind → ImageKind → Bool
is_kind Plain Plain = true
is_kind PreCommit PreCommit = true
is_kind Resolver Resolver = true
is_kind a b = false

-- a kind of hook, and the name that is bound to it, or none
abbrev pub Binding : Type 0
Binding = ImageKind × Option (List ℕ)

-- what changes a registry: a program gets a name, a name is given up, a bucket's hooks are named anew
pub data Change : Type 0 where
  Install : (name : List ℕ) (program : Program) → Change
  Remove : (name : List ℕ) → Change
  Bind : (bucket : List ℕ) (bindings : List Binding) → Change

-- the program of a name after one more change
abbrev pub program_after : List ℕ → Option Program → Change → Option Program
program_after name before (Install other program) = if is_name other name then Some program else before
program_after name before (Remove other) = if is_name other name then None else before
program_after name before (Bind bucket bindings) = before

-- the name that is bound to a kind after one more binding of that bucket
abbrev pub binding_after : ImageKind → Option (List ℕ) → Binding → Option (List ℕ)
binding_after kind before binding = if is_kind binding.0 kind then binding.1 else before

-- the name that is bound to a bucket and a kind after one more change
abbrev pub name_after : List ℕ → ImageKind → Option (List ℕ) → Change → Option (List ℕ)
name_after bucket kind before (Install name program) = before
name_after bucket kind before (Remove name) = before
name_after bucket kind before (Bind other bindings) = if is_name other bucket then fold (binding_after kind) before bindings else before

-- of a list of changes: the program of the last install of a name, if that wasn't removed since
abbrev pub program_at : List Change → List ℕ → Option Program
program_at changes name = fold (program_after name) None changes

-- of a list of changes: the name in the last binding of a bucket and a kind
abbrev pub bound_at : List Change → List ℕ → ImageKind → Option (List ℕ)
bound_at changes bucket kind = fold (name_after bucket kind) None changes

-- a program, if it is of this kind
abbrev pub of_kind : ImageKind → Option Program → Option Program
of_kind kind None = None
of_kind kind (Some program) = if is_kind program.kind kind then Some program else None

-- the program that a bound name has, if it is of this kind
abbrev pub hook_named : (List ℕ → Option Program) → ImageKind → Option (List ℕ) → Option Program
hook_named program kind None = None
hook_named program kind (Some name) = of_kind kind (program name)

-- of a list of changes: the hook of a bucket and a kind
abbrev pub hook_at : List Change → List ℕ → ImageKind → Option Program
hook_at changes bucket kind = hook_named (program_at changes) kind (bound_at changes bucket kind)

-- a name that has a program, or none
abbrev pub has_program : (List ℕ → Option Program) → Option (List ℕ) → Bool
has_program program None = true
has_program program (Some name) = is_some (program name)

abbrev pub is_known : (List ℕ → Option Program) → Binding → Bool
is_known program binding = has_program program binding.1

abbrev pub are_known : (List ℕ → Option Program) → List Binding → Bool
are_known program bindings = list_all (is_known program) bindings

-- a name whose program is of this kind, or none
abbrev pub has_kind : (List ℕ → Option Program) → ImageKind → Option (List ℕ) → Bool
has_kind program kind None = true
has_kind program kind (Some name) = is_some (of_kind kind (program name))

abbrev pub is_fitting : (List ℕ → Option Program) → Binding → Bool
is_fitting program binding = has_kind program binding.0 binding.1

abbrev pub are_fitting : (List ℕ → Option Program) → List Binding → Bool
are_fitting program bindings = list_all (is_fitting program) bindings

-- bindings that may be made: each name has a program of its kind
abbrev pub AreAllowed : (List ℕ → Option Program) → List Binding → Type 0
AreAllowed program bindings = (are_known program bindings ≡ true) × (are_fitting program bindings ≡ true)

-- why bindings may not be made: a name without a program, told before a kind that differs
abbrev pub AreRefused : (List ℕ → Option Program) → List Binding → HookFault → Type 0
AreRefused program bindings NameUnknown = are_known program bindings ≡ false
AreRefused program bindings KindDiffers = (are_known program bindings ≡ true) × (are_fitting program bindings ≡ false)
AreRefused program bindings NoMemory = ⊥
