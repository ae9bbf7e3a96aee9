use Rattle.std.proofs.Common.{◌≤◌}
use Rattle.repair.proofs.ExchangeLemmas.{IsBringing}
use Rattle.repair.proofs.exchanging.bring_all.Given as goal

-- the keys so far were brought
abbrev pub invariant-loop-key : goal.invariant-loop-key
invariant-loop-key g l = record {
  brought : IsBringing g.P.Peers.happens l.fn.peers l.peers l.from l.to l.keys l.key-index l.exchanged;
  few : l.exchanged.taken ≤ l.key-index;
  few_whole : l.exchanged.whole_at_once ≤ l.key-index;
}
