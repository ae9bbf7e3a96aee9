use Rattle.std.proofs.Common.{◌≡◌, ◌++◌, ◌∷◌, [], List, sym, ap, ◌∙◌, subst, arith}
use Rattle.std.proofs.lemmas.List.{map-append}
use Rattle.hook_registry.specs.Changes.{Change}
use Rattle.hook_registry.specs.Tables.{Shows}
use Rattle.hook_readers.specs.Edits.{change_of, changes_of}
use Rattle.hook_sharing.proofs.Fronts.{one_longer}
use Rattle.hook_sharing.proofs.published.PublishedAbsorbOp.absorb_first.Goals as goal

pub invariant_of-self-2 : goal.invariant_of-self-2
invariant_of-self-2 g c =
    let o = c.edit.ensures in
    let l = c.longer-front.ensures in
    let mine = c.self.inside.front in
    let edit = c.edit.result.now in
    let next = one_longer mine c.front-ends.result.now c.longer-front.result o.0 edit l.one l.this l.that (c.front-ends.ensures ∙ o.1) (omega arith) (omega arith) in
    let whole : changes_of mine ++ change_of edit ∷ [] ≡ changes_of c.longer-front.result = sym (map-append change_of mine (edit ∷ [])) ∙ ap changes_of next in
    subst (λ (changes : List Change). Shows changes c.apply.new.registry) whole (c.changes_add_up.ensures (changes_of mine) (change_of edit) c.self.inside.registry c.apply.new.registry c.self.invariant c.in_ok-apply.ensures.ok)
