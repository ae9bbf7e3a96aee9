use Rattle.std.proofs.Common.{◌≡◌, take}
use Rattle.vnode.specs.Keys.{reads_of}
use Rattle.vnode.specs.States.{keys_of}
use Rattle.vnode.proofs.steps.reads_in.Given as goal

abbrev pub invariant-loop-index : goal.invariant-loop-index
invariant-loop-index l = l.reads.items ≡ reads_of l.stamp (keys_of (take l.index l.copies))
