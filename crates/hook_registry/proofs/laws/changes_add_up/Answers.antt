use Rattle.std.proofs.Common.{◌∙◌, ap, sym, [], ◌∷◌, None}
use Rattle.std.proofs.lemmas.List.Sums.{fold-append}
use Rattle.hook_registry.specs.Changes.{name_after, program_after}
use Rattle.hook_registry.proofs.laws.changes_add_up.Goals as goal

pub returns : goal.returns
returns c = λ changes change old new shows by. record {
  programs = λ name. by.programs name ∙ ap (λ p. program_after name p change) (shows.programs name) ∙ sym (fold-append (program_after name) None changes (change ∷ []));
  names = λ bucket kind. by.names bucket kind ∙ ap (λ n. name_after bucket kind n change) (shows.names bucket kind) ∙ sym (fold-append (name_after bucket kind) None changes (change ∷ []));
}
