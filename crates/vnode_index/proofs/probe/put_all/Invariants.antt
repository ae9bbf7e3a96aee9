use Rattle.std.proofs.Common.{◌≡◌, take}
use Rattle.vnode_index.specs.Slots.{taken, Rehashes}
use Rattle.vnode_index.proofs.probe.put_all.Given as goal

abbrev pub invariant-loop-slot : goal.invariant-loop-slot
invariant-loop-slot l = record { all : Rehashes l.from l.to l.slot-index; taken : taken l.to ≡ taken (take l.slot-index l.from) }
