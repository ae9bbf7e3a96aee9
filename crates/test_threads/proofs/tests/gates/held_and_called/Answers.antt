use denote.RattleType.{RattleType}
use denote.Plain.{Boolean}
use denote.Param.Send.{IsSend, IsSync, sendable, shr_send, param_send}
use denote.Param.{param}
use denote.Struct.Tuple.{TupleAt}
use mir.Syntax.{Sym, erased}
use mathlib.Core.List.{[], ◌∷◌}
use Rattle.cluster.proofs.Sent.{cluster_sync}
use Rattle.test_threads.proofs.tests.gates.Signs.TheSendSync as signs
use Rattle.test_threads.proofs.tests.gates.held_and_called.Goals as goal

captures_send : (ν : Sym) (A B C D : RattleType) → IsSend A → IsSend B → IsSend C → IsSend D → IsSend (TupleAt ν (A ∷ B ∷ C ∷ D ∷ []))
captures_send ν A B C D a b c d = search (sendable) depth 30

bool_sync : IsSync Boolean
bool_sync = search sendable

pub join-held-requires-send-F : goal.join-held-requires-send-F
join-held-requires-send-F g c κs within =
    let cluster = cluster_sync (param 0 g.row.B) g.B.Room c.type_bounds.send-B c.type_bounds.sync-B in
    let captured = captures_send [] _ _ _ _ (shr_send erased _ _ c.type_bounds.sync-R) (shr_send erased _ _ cluster) (shr_send erased _ _ signs.the_sync) (shr_send erased [] Boolean bool_sync) in
    record { owned = captured.owned; leaving = (param_send 1 _ captured).leaving }
