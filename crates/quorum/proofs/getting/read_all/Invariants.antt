use Rattle.std.proofs.Common.{◌≡◌, ◌≤◌, List, length, Result}
use Rattle.std.specs.Vec.{vec_capacity}
use Rattle.peers.specs.declared.peers.Answer.{Answer}
use Rattle.peers.specs.declared.fault.PeerFault.{PeerFault}
use Rattle.peers.specs.Calls.{Made}
use Rattle.quorum.specs.Gets.{reads, answers}
use Rattle.quorum.proofs.getting.read_all.Given as goal

-- the reads so far, with room for the others' answers
abbrev pub invariant-loop-i : goal.invariant-loop-i
invariant-loop-i g l = record {
  reads : (backs : List (Result Answer PeerFault)) × Made g.P.Peers.happens l.fn.peers (reads l.key l.vnodes backs) l.peers × (length backs ≡ l.i-index) × (l.found.items ≡ answers backs);
  room : length l.vnodes ≤ vec_capacity l.found;
  few : length l.found.items ≤ l.i-index;
}
