use Rattle.std.proofs.Common.{◌≡◌, ◌++◌, take}
use Rattle.std.specs.List.{flat_map}
use Rattle.peer_members.specs.Members.{server_text}
use Rattle.peer_members.proofs.writing.push_servers.Given as goal

abbrev pub invariant-loop-server : goal.invariant-loop-server
invariant-loop-server l = l.out.items ≡ l.fn.out.items ++ flat_map server_text (take l.server-index l.servers)
