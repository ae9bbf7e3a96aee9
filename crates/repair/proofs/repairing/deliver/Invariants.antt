use Rattle.std.proofs.Common.{take, ◌≤◌}
use Rattle.repair.specs.Repairs.{deliveries_of}
use Rattle.repair.proofs.RepairLemmas.{Tried}
use Rattle.repair.proofs.repairing.deliver.Given as goal

abbrev pub invariant-loop-receiver : goal.invariant-loop-receiver
invariant-loop-receiver g l = Tried g.P.Peers.happens l.fn.peers l.peers l.key (deliveries_of (take l.receiver-index l.answers) l.sender) l.delivered × (l.delivered ≤ l.receiver-index)
