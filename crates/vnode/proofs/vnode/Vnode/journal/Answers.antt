use Rattle.std.proofs.Common.{subst}
use Rattle.journal.specs.Replay.{IsReplay}
use Rattle.vnode.specs.States.{state_at}
use Rattle.vnode.proofs.vnode.Vnode.journal.Goals as goal

pub returns-clause-leaves : goal.returns-clause-leaves
returns-clause-leaves c key = (state_at c.self.inside.states key, subst (λ log. IsReplay log.entries key (state_at c.self.inside.states key)) c.self.view_is (c.self.invariant.leaves key))
