use Rattle.std.proofs.Common.{◌≡◌, take}
use Rattle.peer_messages.specs.Filling.{bare_siblings}
use Rattle.peer_messages.proofs.parts.bare_siblings.Given as goal

abbrev pub invariant-loop-sibling : goal.invariant-loop-sibling
invariant-loop-sibling l = l.all.items ≡ bare_siblings (take l.sibling-index l.siblings)
