use Rattle.std.proofs.Common.{◌≡◌, List, length}
use Rattle.peers.specs.Calls.{Made}
use Rattle.quorum.specs.Puts.{Brought, gathers}
use Rattle.quorum.proofs.putting.gather.Given as goal

abbrev pub invariant-loop-i : goal.invariant-loop-i
invariant-loop-i g l =
    (brought : List Brought) × Made g.P.Peers.happens l.fn.peers (gathers l.coordinator l.key l.vnodes brought) l.peers × (length brought ≡ l.i-index)
