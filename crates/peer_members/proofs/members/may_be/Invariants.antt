use Rattle.std.proofs.Common.{take}
use Rattle.std.specs.List.{AllByRecursion}
use Rattle.peer_members.specs.Members.{MayBe}
use Rattle.peer_members.proofs.members.may_be.Given as goal

abbrev pub invariant-loop-server : goal.invariant-loop-server
invariant-loop-server l = AllByRecursion (MayBe l.vnodes) (take l.server-index l.servers)
