use Rattle.std.proofs.Common.{drop}
use Rattle.peer_members.specs.Members.{AreRising}
use Rattle.peer_members.proofs.members.are_rising.Given as goal

-- the servers that are still to come decide
abbrev pub invariant-loop-server : goal.invariant-loop-server
invariant-loop-server l = AreRising l.least (drop l.server-index l.servers) → AreRising 0 l.servers
