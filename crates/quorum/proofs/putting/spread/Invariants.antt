use Rattle.std.proofs.Common.{◌≡◌, List, length, Result, Bool}
use Rattle.peers.specs.declared.fault.PeerFault.{PeerFault}
use Rattle.peers.specs.Calls.{Made}
use Rattle.quorum.specs.Puts.{merges, copies}
use Rattle.quorum.proofs.putting.spread.Given as goal

abbrev pub invariant-loop-i : goal.invariant-loop-i
invariant-loop-i g l =
    (backs : List (Result Bool PeerFault)) × Made g.P.Peers.happens l.fn.peers (merges l.key l.answer l.vnodes backs) l.peers × (length backs ≡ l.i-index) × (l.stored ≡ copies backs)
