use Rattle.std.proofs.Common.{◌∙◌, ap, map, subst, sym}
use Rattle.key_state.specs.State.{AreCovered}
use Rattle.peer_messages.specs.Filling.{filled}
use Rattle.peer_messages.proofs.Order.{filled_covered}
use Rattle.peer_messages.proofs.parts.summary_of.Goals as goal

pub from_parts-requires-clause-covered : goal.from_parts-requires-clause-covered
from_parts-requires-clause-covered c =
    let covered = filled_covered c.args.part.now.clock c.args.part.now.siblings c.siblings.ensures.part.covered in
    subst (λ xs. AreCovered c.in_ok-clock.clock xs) (sym (c.in_ok-siblings.ensures ∙ ap (map filled) c.siblings.ensures.all))
    (subst (λ k. AreCovered k (map filled c.args.part.now.siblings)) (sym (c.in_ok-clock.ensures.same ∙ c.clock.ensures)) covered)
