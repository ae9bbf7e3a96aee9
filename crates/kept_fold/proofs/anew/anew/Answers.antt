use Rattle.std.proofs.Common.{List, ◌∷◌, [], length, sym, subst}
use Rattle.dvv.specs.declared.Dot.{Dot}
use Rattle.key_state.specs.declared.content.Sibling.{Sibling}
use Rattle.key_state.specs.State.{AreCovered, AreInOrder}
use Rattle.kept_fold.proofs.Numbered.{numbered_covered, numbered_in_order}
use Rattle.kept_fold.proofs.anew.anew.Goals as goal

pub from_parts-requires-clause-order : goal.from_parts-requires-clause-order
from_parts-requires-clause-order c = subst AreInOrder (sym c.in_ok-contents.ensures) (numbered_in_order c.args.id 1 c.args.siblings.now)

pub from_parts-requires-clause-covered : goal.from_parts-requires-clause-covered
from_parts-requires-clause-covered c =
    subst (λ (l : List Dot). AreCovered l c.in_ok-contents.contents.items) (sym c.in_ok-clock.ensures)
    (subst (λ (l : List Sibling). AreCovered (record { vnode = c.args.id; n = length c.args.siblings.now } ∷ []) l) (sym c.in_ok-contents.ensures) (numbered_covered c.args.id c.args.siblings.now))
