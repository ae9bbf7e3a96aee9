use Rattle.cluster_vnode.proofs.Stand.{stands}
use Rattle.cluster_vnode.proofs.laws.receipts_stand.Goals as goal

pub returns : goal.returns
returns c = stands
