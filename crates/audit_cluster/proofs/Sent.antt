-- A watch may be handed to another thread. The front of a journal holds itself, so rattle gives no such fact of the types above it.
use denote.RattleType.{RattleType}
use denote.Param.Send.{IsSend, sendable}
use Rattle.std.proofs.Crossing.{crosses}
use Rattle.journal.proofs.entry.Entry.TheSendSync as entry
use Rattle.key_state.proofs.content.Key.TheSendSync as key
use Rattle.key_state.proofs.shared.Shared.TheSendSync as shared
use Rattle.atomic_table.proofs.shared.Seat.TheSendSync as seat
use Rattle.audit_replay.specs.contracts.rerun.Rerun as Rerun
use Rattle.audit_follower.specs.contracts.follower.Follower as Follower
use Rattle.audit_cluster.specs.contracts.watch.Watch as Watch
use Rattle.cluster_vnode.proofs.Sent.{vnode_send}
use Rattle.cluster_vnode.specs.declared.pass.Room as room
use Rattle.audit_cluster.specs.declared.watch.Spot as spot

rerun_send : IsSend Rerun.the_row
rerun_send = search (vnode_send, key.the_send, shared.the_send, sendable, crosses) depth 60 fits 20000

pub follower_send : IsSend Follower.the_row
follower_send = search (rerun_send, entry.the_send, sendable, crosses) depth 60

pub watch_send : (B : RattleType) (g : room.Ghosts B.Denot) (h : spot.Ghosts B.Denot) → IsSend B → IsSend (Watch.the_row B g h)
watch_send B g h s = search (follower_send, entry.the_send, seat.the_send, sendable, crosses) depth 60 fits 20000
