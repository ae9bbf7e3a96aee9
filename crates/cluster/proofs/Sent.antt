-- Threads may share a cluster. The journal's front holds itself, so rattle gives no such fact of the types above it.
use denote.RattleType.{RattleType}
use denote.Param.Send.{IsSend, IsSync, sendable}
use Rattle.std.proofs.alloc.Global.TheSendSync as heap
use Rattle.cluster_stamps.proofs.word.Stamps.TheSendSync as stamps
use Rattle.vnode.proofs.seed.Seed.TheSendSync as seed
use Rattle.cluster.specs.contracts.cluster.Cluster as Cluster
use Rattle.cluster_vnode.proofs.Sent.{locks_sync}
use Rattle.cluster_vnode.specs.declared.pass.Room.{Ghosts}

pub cluster_sync : (B : RattleType) (g : Ghosts B.Denot) → IsSend B → IsSync B → IsSync (Cluster.the_row B g)
cluster_sync B g s y = search (locks_sync, stamps.the_field_sync, heap.the_field_sync, seed.the_field_sync, sendable) depth 60
