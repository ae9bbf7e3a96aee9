use Rattle.std.proofs.Common.{rules}
use Rattle.journal.proofs.blocks.Blocks.len.Goals as goal
use Rattle.journal.proofs.Blocked.{long}

pub overflow_mul-result : goal.overflow_mul-result
overflow_mul-result c = let size = long c.self.inside.last.items c.self.inside.closed.items c.self.invariant.0.0 in search (rules, size)

pub overflow_add-result : goal.overflow_add-result
overflow_add-result c = let size = long c.self.inside.last.items c.self.inside.closed.items c.self.invariant.0.0 in search (rules, size)

pub returns-clause-len : goal.returns-clause-len
returns-clause-len c = let size = long c.self.inside.last.items c.self.inside.closed.items c.self.invariant.0.0 in search (rules, size)

pub returns-clause-limit : goal.returns-clause-limit
returns-clause-limit c = let size = long c.self.inside.last.items c.self.inside.closed.items c.self.invariant.0.0 in search (rules, size)
