use Rattle.std.proofs.Common.{◌∙◌, ap, List, ℕ}
use Rattle.std.specs.Map.{lookup}
use Rattle.hook_registry.specs.Changes.{is_name}
use Rattle.hook_registry.proofs.Named.{found_in}
use Rattle.hook_registry.proofs.names.Names.get.Goals as goal

pub returns : goal.returns
returns g c = c.get.ensures.value ∙ found_in _ c.args.name.now ∙ ap (λ (held : List (List ℕ × g.row.V.Denot)). lookup (is_name c.args.name.now) held) c.self.view_is
