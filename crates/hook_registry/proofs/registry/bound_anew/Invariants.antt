use Rattle.std.proofs.Common.{◌≡◌, take}
use Rattle.std.specs.List.{fold}
use Rattle.bpf_image.specs.declared.image.ImageKind.{ImageKind as Kind}
use Rattle.hook_registry.specs.Bindings.{bound_by}
use Rattle.hook_registry.specs.Changes.{binding_after}
use Rattle.hook_registry.proofs.registry.bound_anew.Given as goal

abbrev pub invariant-loop-binding : goal.invariant-loop-binding
invariant-loop-binding l = (kind : Kind) → bound_by l.bound kind ≡ fold (binding_after kind) (bound_by l.initial.bound kind) (take l.binding-index l.bindings)
