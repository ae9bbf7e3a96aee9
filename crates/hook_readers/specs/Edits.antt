-- Changes of a registry that threads share, and what is told of them.
use Rattle.std.specs.Prelude.{◌≡◌, ℕ, List, map, Option, Result, IfOk, OnErr}
use Rattle.std.specs.Arc.{arc_value}
use mathlib.Core.List.{IsPrefix}
use Rattle.bpf_image.specs.declared.image.ImageKind.{ImageKind}
use Rattle.bpf_verifier.specs.Program.{Program}
use Rattle.hook_registry.specs.declared.fault.NotSeen.{NotSeen}
use Rattle.hook_registry.specs.declared.fault.NameFault.{NameFault}
use Rattle.hook_registry.specs.Changes as hooks
use Rattle.hook_registry.specs.Changes.{Change, hook_at, bound_at}
use Rattle.hook_readers.specs.declared.edit.Edit.{Edit}
use Rattle.hook_readers.specs.declared.edit.Edit.TheVariants.{Install, Remove, Bind}

-- the change that an edit makes
abbrev pub change_of : Edit → Change
change_of (Install name program) = hooks.Install name (arc_value program)
change_of (Remove name) = hooks.Remove name
change_of (Bind bucket bindings) = hooks.Bind bucket bindings.items

abbrev pub changes_of : List Edit → List Change
changes_of edits = map change_of edits

-- a hook is that of a list of published changes that begins with all that the reader knew, and that it knows from then on
abbrev pub Finds : List Change → List ℕ → ImageKind → Result (Option Program) NotSeen → List Change → Type 0
Finds old bucket kind result new = IsPrefix old new × IfOk result (λ hook. hook ≡ hook_at new bucket kind) × OnErr result (new ≡ old)

-- so is a bound name
abbrev pub Names : List Change → List ℕ → ImageKind → Result (Option (List ℕ)) NameFault → List Change → Type 0
Names old bucket kind result new = IsPrefix old new × IfOk result (λ name. name ≡ bound_at new bucket kind) × OnErr result (new ≡ old)
