use Rattle.std.proofs.Common.{take}
use Rattle.peer_messages.specs.Limits.{AreSentContents}
use Rattle.peer_messages.proofs.limits.are_sent_contents.Given as goal

abbrev pub invariant-loop-sibling : goal.invariant-loop-sibling
invariant-loop-sibling l = AreSentContents (take l.sibling-index l.siblings)
