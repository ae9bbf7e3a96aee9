use Rattle.std.proofs.Common.{◌∙◌, ap, cond, None, List, ℕ}
use Rattle.std.specs.Map.{lookup}
use Rattle.hook_registry.specs.Changes.{is_name}
use Rattle.hook_registry.proofs.Named.{found_in, found_of_written}
use Rattle.hook_registry.proofs.names.Names.remove.Goals as goal

pub returns-clause-value : goal.returns-clause-value
returns-clause-value g c = c.remove.ensures.value ∙ found_in _ c.args.name.now ∙ ap (λ (held : List (List ℕ × g.row.V.Denot)). lookup (is_name c.args.name.now) held) c.self.view_is

pub returns-clause-others : goal.returns-clause-others
returns-clause-others g c = λ other. found_of_written _ _ c.args.name.now _ c.remove.ensures.updates.1 c.remove.ensures.updates.3 other
    ∙ ap (λ (held : List (List ℕ × g.row.V.Denot)). cond (is_name c.args.name.now other) None (lookup (is_name other) held)) c.self.view_is
