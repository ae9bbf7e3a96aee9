use denote.RattleType.{RattleType}
use denote.Param.Send.{IsSync, sendable, shr_sync}
use denote.Param.{param}
use denote.Struct.Tuple.{TupleAt}
use mir.Syntax.{Sym, erased}
use mathlib.Core.List.{[], ◌∷◌}
use Rattle.std.proofs.alloc.Global.TheSendSync as heap
use Rattle.cluster.proofs.Sent.{cluster_sync}
use Rattle.test_threads.proofs.tests.working.serve_all.Goals as goal

-- three captures
captures_sync : (ν : Sym) (A B C : RattleType) → IsSync A → IsSync B → IsSync C → IsSync (TupleAt ν (A ∷ B ∷ C ∷ []))
captures_sync ν A B C a b c = search (sendable) depth 30

pub map_vec-requires-sync-F : goal.map_vec-requires-sync-F
map_vec-requires-sync-F g c κs within =
    let cluster = cluster_sync (param 0 g.row.B) g.B.Room c.type_bounds.send-B c.type_bounds.sync-B in
    record { shared = (captures_sync [] _ _ _ (shr_sync erased [] _ heap.the_sync) (shr_sync erased _ _ c.type_bounds.sync-R) (shr_sync erased _ _ cluster)).shared }
