use Rattle.std.proofs.Common.{sym}
use Rattle.dvv.proofs.Walks.{counter_no_first}
use Rattle.dvv.proofs.walk.split_vnode.Goals as goal

-- the first entry is of a higher vnode
pub returns-else-first-vnode-clause-count : goal.returns-else-first-vnode-clause-count
returns-else-first-vnode-clause-count c = sym (counter_no_first c.args.vnode c.args.entries.now (record { vnode = 0; n = 0 }) c.requires (λ some. c.if-first-vnode.false))
