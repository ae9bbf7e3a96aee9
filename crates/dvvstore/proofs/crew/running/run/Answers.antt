use denote.RattleType.{RattleType}
use denote.Exit.{no}
use denote.Param.Send.{IsSend, arg_send, param_send, sendable, shr_send}
use denote.Param.{param}
use denote.Struct.Tuple.{TupleAt}
use mir.Syntax.{Sym}
use mathlib.Core.List.{[], ◌∷◌}
use Rattle.std.proofs.alloc.Global.TheSendSync as heap
use Rattle.server_accept.proofs.Sent.{lobby_sync}
use Rattle.cluster.proofs.Sent.{cluster_sync}
use Rattle.kept_restore.proofs.Sent.{six_send}
use Rattle.dvvstore.proofs.Sent.{saver_send, shared_sync, spares_alone}
use Rattle.dvvstore.proofs.crew.running.run.Goals as goal

pub join_three-spares-requires-send-F : goal.join_three-spares-requires-send-F
join_three-spares-requires-send-F g c κs within =
    let cluster = cluster_sync (param 0 g.row.B) g.B.Room c.type_bounds.send-B c.type_bounds.sync-B in
    let shared = shared_sync _ (param 0 g.row.B) (param 4 g.row.L) g.B.Room g.B.Spot c.type_bounds.send-B c.type_bounds.sync-L in
    param_send 1 _ (arg_send _ no _ (six_send _ _ _ _ _ _ _ (shr_send _ _ _ c.type_bounds.sync-R) (shr_send _ _ _ cluster) (shr_send _ _ _ shared) (shr_send _ _ _ lobby_sync) (saver_send _ c.type_bounds.send-F)
    (spares_alone _ _ c.type_bounds.send-B)))

-- five captures
captures_send : (ν : Sym) (A B C D E : RattleType) → IsSend A → IsSend B → IsSend C → IsSend D → IsSend E → IsSend (TupleAt ν (A ∷ B ∷ C ∷ D ∷ E ∷ []))
captures_send ν A B C D E a b c d e = search (sendable) depth 30

pub join_three-spares-requires-send-G : goal.join_three-spares-requires-send-G
join_three-spares-requires-send-G g c κs within =
    let cluster = cluster_sync (param 0 g.row.B) g.B.Room c.type_bounds.send-B c.type_bounds.sync-B in
    let shared = shared_sync _ (param 0 g.row.B) (param 4 g.row.L) g.B.Room g.B.Spot c.type_bounds.send-B c.type_bounds.sync-L in
    param_send 2 _ (arg_send _ no _ (captures_send _ _ _ _ _ _ (shr_send _ _ _ c.type_bounds.sync-R) (shr_send _ _ _ heap.the_sync) (shr_send _ _ _ cluster) (shr_send _ _ _ lobby_sync) (shr_send _ _ _ shared)))
