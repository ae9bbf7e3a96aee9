use Rattle.std.proofs.Common.{List, take, arith}
use Rattle.std.proofs.lemmas.List.{length-take-le}
use Rattle.journal.specs.Entry.{Entry}
use Rattle.audit_follower.proofs.Bytes.{few_bytes}
use Rattle.audit_follower.proofs.queue.bytes_of.Goals as goal

pub overflow_add-bytes : goal.overflow_add-bytes
overflow_add-bytes c =
    let first : List Entry = take c.loop-entry.entry-index c.args.entries.now in
    let few = few_bytes first in
    let long = length-take-le c.loop-entry.entry-index c.args.entries.now (omega (arith, c.loop-entry-test.true)) in
    omega (arith, c.loop-entry.invariant, c.loop-entry-test.true, c.loop-entry.auto.entry-index-end, few, long, c.from-bytes.ensures, c.bytes_of_entry.type_inv)
