-- The names that are bound to a bucket's kinds of hooks.
use Rattle.std.specs.Prelude.{ℕ, List, Option, Some, None}
use Rattle.bpf_image.specs.declared.image.ImageKind.{ImageKind}
use Rattle.bpf_image.specs.declared.image.ImageKind.TheVariants.{Plain, PreCommit, Resolver}
use Rattle.hook_registry.specs.declared.bindings.Bindings.{Bindings}

-- the name that is bound to a kind
abbrev pub bound_by : Bindings → ImageKind → Option (List ℕ)
bound_by bindings Plain = bindings.plain
bound_by bindings PreCommit = bindings.pre_commit
bound_by bindings Resolver = bindings.resolver

-- the same where a bucket may have no bindings yet
abbrev pub bound_if : Option Bindings → ImageKind → Option (List ℕ)
bound_if None kind = None
bound_if (Some bindings) kind = bound_by bindings kind
