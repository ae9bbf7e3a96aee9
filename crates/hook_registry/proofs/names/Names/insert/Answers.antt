use Rattle.std.proofs.Common.{◌∙◌, ap, cond, Some, List, ℕ}
use Rattle.std.specs.Map.{lookup}
use Rattle.hook_registry.specs.Changes.{is_name}
use Rattle.hook_registry.specs.Names.{by_bytes}
use Rattle.hook_registry.proofs.Named.{found_of_written}
use Rattle.hook_registry.proofs.names.Names.insert.Goals as goal

pub returns-clause-ok : goal.returns-clause-ok
returns-clause-ok g c = λ other. found_of_written _ _ c.in_ok-name.name.items _ c.in_ok-insert.ensures.updates.1 c.in_ok-insert.ensures.updates.3 other
    ∙ ap (λ k. cond (is_name k other) (Some c.args.value) (lookup (is_name other) (by_bytes c.self.inside.entries.entries))) c.in_ok-name.ensures.items
    ∙ ap (λ (held : List (List ℕ × g.row.V.Denot)). cond (is_name c.args.name.now other) (Some c.args.value) (lookup (is_name other) held)) c.self.view_is
