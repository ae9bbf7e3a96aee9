use Rattle.std.proofs.Common.{arith}
use Rattle.record_codec.proofs.Fields.{siblings_in_order}
use Rattle.record_codec.proofs.read.state_at.Goals as goal

pub from_parts-requires-clause-order : goal.from_parts-requires-clause-order
from_parts-requires-clause-order c = (siblings_in_order c.args.bytes.now (c.in_ok-clock.clock, c.in_ok-clock.rest.now) (c.in_ok-siblings.siblings.items, c.in_ok-siblings.rest.now) (λ i. omega (arith, c.type_inv.bytes i)) c.in_ok-clock.ensures c.in_ok-siblings.ensures).0

pub from_parts-requires-clause-covered : goal.from_parts-requires-clause-covered
from_parts-requires-clause-covered c = (siblings_in_order c.args.bytes.now (c.in_ok-clock.clock, c.in_ok-clock.rest.now) (c.in_ok-siblings.siblings.items, c.in_ok-siblings.rest.now) (λ i. omega (arith, c.type_inv.bytes i)) c.in_ok-clock.ensures c.in_ok-siblings.ensures).1
