use Rattle.std.proofs.Common.{◌≡◌, map, take}
use Rattle.peer_messages.specs.Filling.{filled}
use Rattle.peer_messages.proofs.parts.filled.Given as goal

abbrev pub invariant-loop-sibling : goal.invariant-loop-sibling
invariant-loop-sibling l = l.all.items ≡ map filled (take l.sibling-index l.siblings)
