use denote.RattleType.{RattleType}
use denote.Exit.{no}
use denote.Param.Send.{IsSend, arg_send, mut_send, param_send, sendable, shr_send}
use denote.Param.{param}
use denote.Struct.Tuple.{TupleAt}
use mir.Syntax.{Sym}
use mathlib.Core.List.{[], ◌∷◌}
use Rattle.cluster.proofs.Sent.{cluster_sync}
use Rattle.dvvstore.proofs.Sent.{load_sync, lookout_send}
use Rattle.dvvstore.proofs.beginning.begin.Goals as goal

-- three captures
captures_send : (ν : Sym) (A B C : RattleType) → IsSend A → IsSend B → IsSend C → IsSend (TupleAt ν (A ∷ B ∷ C ∷ []))
captures_send ν A B C a b c = search (sendable) depth 30

pub join-loaded-requires-send-F : goal.join-loaded-requires-send-F
join-loaded-requires-send-F g c κs within =
    let cluster = cluster_sync (param 0 g.row.B) g.B.Room c.type_bounds.send-B c.type_bounds.sync-B in
    let lookout = lookout_send (param 0 g.row.B) g.B.Room g.B.Spot c.type_bounds.send-B in
    param_send 1 _ (arg_send _ no _ (captures_send _ _ _ _ (shr_send _ _ _ cluster) (mut_send _ _ _ lookout) (shr_send _ _ _ (load_sync _ _ c.type_bounds.sync-R))))
