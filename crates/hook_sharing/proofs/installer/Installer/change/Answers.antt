use Rattle.std.proofs.Common.{◌++◌, ◌∷◌, [], List, sym, ap, ◌∙◌, subst}
use Rattle.hook_registry.specs.Changes.{Change}
use Rattle.hook_registry.specs.Tables.{Shows}
use Rattle.hook_readers.specs.Edits.{change_of, changes_of}
use Rattle.hook_sharing.proofs.Fronts.{one_more}
use Rattle.hook_sharing.proofs.installer.Installer.change.Goals as goal

pub invariant_of-self-2 : goal.invariant_of-self-2
invariant_of-self-2 g c =
    let mine = c.self.inside.outlet in
    let room = c.reserve.ensures in
    let more = c.take_in.ensures in
    let is = one_more mine.front c.take_in.new.self.front mine.waiting.items c.take_in.new.self.waiting.items c.args.edit (more.front ∙ room.front) (more.waiting ∙ ap (λ ws. ws ++ c.args.edit ∷ []) room.waiting) in
    subst (λ (changes : List Change). Shows changes c.apply.new.registry) (sym is) (c.changes_add_up.ensures (changes_of (mine.front ++ mine.waiting.items)) (change_of c.args.edit) c.self.inside.registry c.apply.new.registry c.self.invariant c.in_ok-apply.ensures.ok)
