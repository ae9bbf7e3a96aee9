use Rattle.std.proofs.Common.{arith}
use Rattle.context_token.specs.Layouts.{layout}
use Rattle.context_token.proofs.Entries.{entries_count}
use Rattle.context_token.proofs.reading.counted_entries.Goals as goal

pub checked-requires : goal.checked-requires
checked-requires c = rw c.in_ok-entries_of.ensures.entries (omega (arith, entries_count (layout c.args.version) c.from_be_bytes-count.result c.split_at.result.1.now))
