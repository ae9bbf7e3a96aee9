use Rattle.std.proofs.Common.{◌∙◌, ap, map}
use Rattle.key_state.specs.Parts.{part_of}
use Rattle.peer_messages.specs.Filling.{filled}
use Rattle.peer_messages.proofs.Order.{part_again}
use Rattle.peer_messages.proofs.parts.part_of.Goals as goal

pub returns : goal.returns
returns c =
    c.in_ok-part.ensures
    ∙ ap (λ s. part_of s c.in_ok-held.held) (c.in_ok-state.ensures ∙ ap (λ xs. record { siblings = xs; clock = c.args.clock }) c.in_ok-filled.ensures)
    ∙ ap (λ h. part_of (record { siblings = map filled c.args.siblings.now; clock = c.args.clock }) h) c.in_ok-held.ensures
    ∙ part_again c.args.clock c.args.siblings.now c.requires.in_order
