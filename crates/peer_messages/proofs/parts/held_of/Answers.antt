use Rattle.std.proofs.Common.{subst, sym}
use Rattle.key_state.specs.State.{AreCovered}
use Rattle.peer_messages.specs.Filling.{bare_siblings}
use Rattle.peer_messages.proofs.Order.{bare_covered}
use Rattle.peer_messages.proofs.parts.held_of.Goals as goal

pub from_parts-requires-clause-covered : goal.from_parts-requires-clause-covered
from_parts-requires-clause-covered c =
    subst (λ xs. AreCovered c.in_ok-clock.clock xs) (sym c.in_ok-bare.ensures) (subst (λ k. AreCovered k (bare_siblings c.args.siblings.now)) (sym c.in_ok-clock.ensures.same) (bare_covered c.args.clock.now c.args.siblings.now c.requires.covered))
