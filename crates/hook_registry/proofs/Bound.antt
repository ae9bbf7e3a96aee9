-- What is bound to buckets after a write.
use Rattle.std.proofs.Common.{◌≡◌, ℕ, Bool, true, false, cond, List, Some, refl, ap, ◌∙◌}
use Rattle.std.specs.List.{fold}
use Rattle.std.specs.Map.{lookup}
use Rattle.bpf_image.specs.declared.image.ImageKind.{ImageKind}
use Rattle.hook_registry.specs.declared.bindings.Bindings.{Bindings}
use Rattle.hook_registry.specs.Bindings.{bound_by, bound_if}
use Rattle.hook_registry.specs.Changes.{Binding, binding_after, is_name}
use Rattle.hook_registry.specs.Tables.{bound_in}
use Rattle.hook_registry.proofs.Named.{one_name}

-- the bindings of a bucket that are written, and those that were there
pub bound_of_written : (bindings : List (List ℕ × Bindings)) (bucket other : List ℕ) (kind : ImageKind) (bound : Bindings) (more : List Binding) (same : Bool) → is_name bucket other ≡ same
    → ((kind : ImageKind) → bound_by bound kind ≡ fold (binding_after kind) (bound_in bindings bucket kind) more)
    → bound_if (cond same (Some bound) (lookup (is_name other) bindings)) kind ≡ cond same (fold (binding_after kind) (bound_in bindings other kind) more) (bound_in bindings other kind)
bound_of_written bindings bucket other kind bound more true is h = h kind ∙ ap (λ b. fold (binding_after kind) (bound_in bindings b kind) more) (one_name bucket other is)
bound_of_written bindings bucket other kind bound more false is h = refl
