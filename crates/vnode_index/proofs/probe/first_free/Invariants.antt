use Rattle.vnode_index.specs.Slots.{PassesTo}
use Rattle.vnode_index.proofs.probe.first_free.Given as goal

abbrev pub invariant-loop-step : goal.invariant-loop-step
invariant-loop-step l = PassesTo l.slots l.fn.hash l.step
