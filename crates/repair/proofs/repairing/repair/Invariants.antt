use Rattle.std.proofs.Common.{take, ◌≤◌, ◌*◌}
use Rattle.std.specs.List.{flat_map}
use Rattle.repair.specs.Repairs.{deliveries_of}
use Rattle.repair.proofs.RepairLemmas.{Tried}
use Rattle.repair.proofs.repairing.repair.Given as goal

abbrev pub invariant-loop-sender : goal.invariant-loop-sender
invariant-loop-sender g l = Tried g.P.Peers.happens l.fn.peers l.peers l.key (flat_map (deliveries_of l.answers) (take l.sender-index l.answers)) l.delivered × (l.delivered ≤ 4294967296 * l.sender-index)
