use Rattle.std.proofs.Common.{◌≡◌}
use Rattle.server_sockets.proofs.sockets.Sockets.look.Given as goal

-- no number is given
abbrev pub invariant-loop : goal.invariant-loop
invariant-loop l = l.self.next ≡ l.initial.self.next
