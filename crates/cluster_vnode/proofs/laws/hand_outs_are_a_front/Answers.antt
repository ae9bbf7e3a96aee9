use Rattle.cluster_vnode.proofs.HandedOut.{front}
use Rattle.cluster_vnode.proofs.laws.hand_outs_are_a_front.Goals as goal

pub returns : goal.returns
returns c = front
