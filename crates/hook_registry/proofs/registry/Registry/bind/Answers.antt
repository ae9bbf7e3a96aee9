use Rattle.std.proofs.Common.{◌∙◌, ap, refl, cond, Some}
use Rattle.std.specs.List.{fold}
use Rattle.std.specs.Map.{lookup}
use Rattle.hook_registry.specs.Bindings.{bound_if}
use Rattle.hook_registry.specs.Changes.{binding_after, is_name}
use Rattle.hook_registry.specs.Tables.{Shown, bound_in, program_in}
use Rattle.hook_registry.proofs.Bound.{bound_of_written}
use Rattle.hook_registry.proofs.registry.Registry.bind.Goals as goal

pub returns-clause-ok : goal.returns-clause-ok
returns-clause-ok c =
    let bucket = c.args.bucket.now in
    let more = c.args.bindings.now in
    let bound = c.in_ok-bound.bound in
    let held = c.self.inside.bindings in
    record {
      programs = λ name. ap (λ (s : Shown). program_in s.programs name) c.self.view_is;
      names = λ other kind.
          ap (λ o. bound_if o kind) (c.in_ok-insert.ensures.ok other
          ∙ ap (λ b. cond (is_name b other) (Some bound) (lookup (is_name other) held)) c.as_slice-bucket.ensures
          ∙ ap (λ (s : Shown). cond (is_name bucket other) (Some bound) (lookup (is_name other) s.bindings)) c.self.view_is)
          ∙ bound_of_written c.args.self.now.bindings bucket other kind bound more (is_name bucket other) refl
          (λ k. c.in_ok-bound.ensures k ∙ ap (λ o. fold (binding_after k) (bound_if o k) more) (c.get.ensures ∙ ap (λ b. lookup (is_name b) held) c.as_slice-bucket.ensures)
          ∙ ap (λ (s : Shown). fold (binding_after k) (bound_in s.bindings bucket k) more) c.self.view_is);
    }
