use Rattle.std.proofs.Common.{arith, subst, sym}
use Rattle.key_state.specs.Parts.{IsPart}
use Rattle.peer_messages.proofs.PartFormats.{read_is_part}
use Rattle.peer_messages.proofs.parts.part_at.Goals as goal

pub part_of-requires : goal.part_of-requires
part_of-requires c =
    let part = read_is_part c.args.bytes.now (c.in_ok-clock.clock, c.in_ok-clock.rest.now) (c.in_ok-siblings.siblings.items, c.in_ok-siblings.rest.now) (λ i. omega (arith, c.type_inv.bytes i)) c.in_ok-clock.ensures c.in_ok-siblings.ensures in
    subst (λ ss. IsPart (record { siblings = ss; clock = c.in_ok-clock.clock })) (sym c.deref.ensures.value) part
