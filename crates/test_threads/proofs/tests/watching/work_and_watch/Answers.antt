use denote.RattleType.{RattleType}
use denote.Param.Send.{IsSend, IsSync, sendable, shr_send, param_send}
use denote.Param.{param}
use denote.Struct.Tuple.{TupleAt}
use mir.Syntax.{Sym, erased}
use mathlib.Core.List.{[], ◌∷◌}
use Rattle.std.proofs.Crossing.{crosses}
use Rattle.std.specs.contracts.sync.Mutex as Mutex
use Rattle.audit_cluster.specs.contracts.watch.Watch as Watch
use Rattle.audit_cluster.specs.declared.watch.Spot as spot
use Rattle.audit_cluster.proofs.Sent.{watch_send}
use Rattle.cluster_vnode.specs.declared.pass.Room as room
use Rattle.cluster.proofs.Sent.{cluster_sync}
use Rattle.test_threads.proofs.tests.watching.work_and_watch.Goals as goal

lock_sync : (B : RattleType) (g : room.Ghosts B.Denot) (h : spot.Ghosts B.Denot) → IsSend B → IsSync (Mutex.the_row (Watch.the_row B g h))
lock_sync B g h s = search (watch_send, sendable, crosses) depth 40

captures_send : (ν : Sym) (A B C : RattleType) → IsSend A → IsSend B → IsSend C → IsSend (TupleAt ν (A ∷ B ∷ C ∷ []))
captures_send ν A B C a b c = search (sendable) depth 30

pub join-done-requires-send-F : goal.join-done-requires-send-F
join-done-requires-send-F g c κs within =
    let cluster = cluster_sync (param 0 g.row.B) g.B.Room c.type_bounds.send-B c.type_bounds.sync-B in
    let watch = lock_sync (param 0 g.row.B) g.B.Room g.B.Spot c.type_bounds.send-B in
    let captured = captures_send [] _ _ _ (shr_send erased _ _ c.type_bounds.sync-R) (shr_send erased _ _ cluster) (shr_send erased _ _ watch) in
    record { owned = captured.owned; leaving = (param_send 1 _ captured).leaving }
