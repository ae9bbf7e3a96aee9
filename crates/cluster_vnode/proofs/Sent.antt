-- Threads may share vnodes under locks. The journal's front holds itself, so rattle gives no such fact of the types above it.
use denote.RattleType.{RattleType}
use denote.Param.Send.{IsSend, IsSync, sendable}
use denote.Param.SendFields.{declared_send}
use Rattle.std.proofs.Crossing.{crosses, Vec-sync}
use Rattle.std.specs.contracts.sync.Mutex as Mutex
use Rattle.std.specs.contracts.vec.Vec as Vec
use Rattle.std.specs.contracts.alloc.Global as Heap
use Rattle.std.specs.contracts.impls.GlobalAllocator.TheImpl.{ghosts}
use Rattle.std.proofs.alloc.Global.TheSendSync as heap
use Rattle.journal.proofs.blocks.Blocks.TheSendSync as blocks
use Rattle.journal.specs.contracts.journal.Journal as Journal
use Rattle.atomic_table.proofs.shared.Seat.TheSendSync as seat
use Rattle.vnode.proofs.states.States.TheSendSync as states
use Rattle.vnode.specs.contracts.vnode.Vnode as Vnode
use Rattle.vnode.specs.contracts.vnode.Vnode.TheInside as Inside
use Rattle.cluster_vnode.specs.contracts.locked.Locked as Locked
use Rattle.cluster_vnode.specs.declared.pass.Room.{Ghosts}

journal_send : IsSend Journal.the_row
journal_send = search (sendable, crosses, blocks.the_send) depth 40

vnode_inside_send : IsSend Inside.the_row
vnode_inside_send = declared_send Inside.the_type (heap.the_send, (states.the_send, (journal_send, tt)))

pub vnode_send : IsSend Vnode.the_row
vnode_send = search (vnode_inside_send, sendable) depth 40

locked_send : (B : RattleType) (g : Ghosts B.Denot) → IsSend B → IsSend (Locked.the_row B g)
locked_send B g s = search (vnode_send, seat.the_send, sendable) depth 40

lock_sync : (B : RattleType) (g : Ghosts B.Denot) → IsSend B → IsSync (Mutex.the_row (Locked.the_row B g))
lock_sync B g s = search (locked_send, sendable, crosses) depth 40

pub locks_sync : (B : RattleType) (g : Ghosts B.Denot) → IsSend B → IsSync ((Vec.the_field (Mutex.the_row (Locked.the_row B g)) Heap.the_row ghosts).row)
locks_sync B g s = Vec-sync _ (lock_sync B g s)
