use denote.RattleType.{RattleType}
use denote.Exit.{no}
use denote.Param.Send.{IsSend, IsSync, arg_send, param_send, sendable, shr_send}
use denote.Struct.Tuple.{TupleAt}
use mir.Syntax.{Sym}
use mathlib.Core.List.{[], ◌∷◌}
use Rattle.std.proofs.Crossing.{crosses}
use Rattle.server_accept.proofs.Sent.{lobby_sync}
use Rattle.dvvstore.specs.contracts.tests.memory.Shared as Shared
use Rattle.dvvstore.proofs.tests.memory.Shared.TheSendSync as shared
use Rattle.dvvstore.proofs.tests.keeping.Errand.TheSendSync as errand
use Rattle.dvvstore.proofs.tests.keeping.both.Goals as goal

folder_sync : (l : _) (R : RattleType) → IsSync R → IsSync (Shared.the_row l R)
folder_sync l R s = search (shared.the_sync, s, sendable, crosses) depth 60 fits 20000

-- three captures
captures_send : (ν : Sym) (A B C : RattleType) → IsSend A → IsSend B → IsSend C → IsSend (TupleAt ν (A ∷ B ∷ C ∷ []))
captures_send ν A B C a b c = search (sendable) depth 30

pub join-requires-send-F : goal.join-requires-send-F
join-requires-send-F g c κs within =
    param_send 1 _ (arg_send _ no _ (captures_send _ _ _ _ (shr_send _ _ _ (folder_sync _ _ c.type_bounds.sync-R)) (shr_send _ _ _ lobby_sync) (shr_send _ _ _ errand.the_sync)))
