use Rattle.std.proofs.Common.{◌≡◌, take}
use Rattle.hook_sharing.proofs.edit.copy_of.Given as goal

abbrev pub invariant-loop-kind : goal.invariant-loop-kind
invariant-loop-kind l = l.copy.items ≡ take l.kind-index l.bindings
