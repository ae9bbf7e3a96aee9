use Rattle.std.proofs.Common.{arith}
use Rattle.record_codec.proofs.Fields.{entries_are_clock}
use Rattle.record_codec.proofs.read.clock_at.Goals as goal

pub from_entries-requires : goal.from_entries-requires
from_entries-requires c = entries_are_clock c.args.bytes.now (c.in_ok-count.count, c.in_ok-count.rest.now) (c.in_ok-entries.entries.items, c.in_ok-entries.rest.now) (λ i. omega (arith, c.type_inv.bytes i)) c.in_ok-count.ensures (omega arith) c.in_ok-entries.ensures
