use Rattle.std.proofs.Common.{◌+◌, arith, sym}
use Rattle.std.proofs.Math.Nat.{mod-eq_of_lt}
use Rattle.vnode_index.proofs.Probing.{goes_round}
use Rattle.vnode_index.proofs.probe.probed.Goals as goal

pub returns-then-at-count-clause-value : goal.returns-then-at-count-clause-value
returns-then-at-count-clause-value c = sym (mod-eq_of_lt c.if-at-count.true)

pub returns-else-at-count-clause-value : goal.returns-else-at-count-clause-value
returns-else-at-count-clause-value c = sym (goes_round c.args.count (c.args.home + c.args.step) c.if-at-count.false (omega arith))
