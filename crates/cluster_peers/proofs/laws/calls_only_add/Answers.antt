use Rattle.cluster_peers.proofs.Growing.{grows}
use Rattle.cluster_peers.proofs.laws.calls_only_add.Goals as goal

pub returns : goal.returns
returns c = grows
