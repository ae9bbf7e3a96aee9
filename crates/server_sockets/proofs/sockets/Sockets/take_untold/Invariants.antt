use Rattle.std.proofs.Common.{◌≡◌}
use Rattle.server_sockets.proofs.sockets.Sockets.take_untold.Given as goal

-- no number is given
abbrev pub invariant-loop-number : goal.invariant-loop-number
invariant-loop-number l = l.self.next ≡ l.initial.self.next
