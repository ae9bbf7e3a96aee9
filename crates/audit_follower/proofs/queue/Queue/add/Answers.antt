use Rattle.std.proofs.Common.{arith}
use Rattle.audit_follower.proofs.Bytes.{few_bytes}
use Rattle.audit_follower.proofs.queue.Queue.add.Goals as goal

pub overflow_add-self : goal.overflow_add-self
overflow_add-self c =
    let own = few_bytes c.self.inside.entries.items in
    let more = few_bytes c.deref.result.now in
    omega (arith, own, more, c.self.invariant, c.self.inside.entries.small, c.self.inside.entries.ok.0, c.args.entries.small, c.args.entries.ok.0, c.deref.ensures.len, c.bytes_of-bytes.ensures)
