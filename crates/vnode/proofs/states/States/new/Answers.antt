use Rattle.vnode.proofs.Mapped.{none_placed}
use Rattle.vnode.proofs.states.States.new.Goals as goal

pub returns-clause-placed : goal.returns-clause-placed
returns-clause-placed c = none_placed _ c.new.ensures.items
