use denote.RattleType.{RattleType}
use denote.Param.Send.{IsSync, sendable, shr_sync, arg_send, arg_sync, param_send, param_sync}
use denote.Exit.{no}
use denote.Param.Object.{Vt, ghosts_of}
use denote.Param.Callables.{held_fn}
use denote.Param.{param}
use denote.Struct.Tuple.{TupleAt}
use mir.Syntax.{Sym}
use mathlib.Core.List.{[], ◌∷◌}
use Rattle.std.proofs.Common.{arith, slice_index_or, subst, sym}
use Rattle.std.proofs.alloc.Global.TheSendSync as heap
use Rattle.server_accept.proofs.Sent.{lobby_sync}
use Rattle.dvvstore.proofs.Sent.{shared_sync}
use Rattle.dvvstore.proofs.SeatSent.{seat_send}
use Rattle.dvvstore.specs.contracts.crew.working.work_all as work_all
use Rattle.cluster.proofs.Sent.{cluster_sync}
use Rattle.dvvstore.specs.Visits.{HasVisited, begun}
use Rattle.dvvstore.proofs.VisitLemmas.{have_visited, if_both}
use Rattle.dvvstore.proofs.crew.working.work_all.Goals as goal

-- five captures
captures_sync : (ν : Sym) (A B C D E : RattleType) → IsSync A → IsSync B → IsSync C → IsSync D → IsSync E → IsSync (TupleAt ν (A ∷ B ∷ C ∷ D ∷ E ∷ []))
captures_sync ν A B C D E a b c d e = search (sendable) depth 30

pub map_vec-back-requires-sync-F : goal.map_vec-back-requires-sync-F
map_vec-back-requires-sync-F g c κs within =
    let cluster = cluster_sync (param 0 g.row.B) g.B.Room c.type_bounds.send-B c.type_bounds.sync-B in
    let shared = shared_sync _ (param 0 g.row.B) (param 3 g.row.L) g.B.Room g.B.Spot c.type_bounds.send-B c.type_bounds.sync-L in
    param_sync 4 _ (arg_sync _ no _ (captures_sync _ _ _ _ _ _ (shr_sync _ _ _ c.type_bounds.sync-R) (shr_sync _ _ _ heap.the_sync) (shr_sync _ _ _ cluster) (shr_sync _ _ _ lobby_sync) (shr_sync _ _ _ shared)))

pub map_vec-back-requires-send-J : goal.map_vec-back-requires-send-J
map_vec-back-requires-send-J g c κs within =
    param_send 1 _ (arg_send _ no _ (seat_send (Vt (work_all.dyn-1.slots g.row.B g.row.H g.row.R g.row.L g.row.L-Receipt g.row.L-Kept) g.dyn-1.0) (ghosts_of (work_all.dyn-1.slots g.row.B g.row.H g.row.R g.row.L g.row.L-Receipt g.row.L-Kept) g.dyn-1.0 g.dyn-1.1) (held_fn g.dyn-1.0) (search sendable depth 10) g.dyn-1.2
    (param 0 g.row.B) (param 1 g.row.H) g.B.Room c.type_bounds.send-B c.type_bounds.send-H))

pub returns-clause-visited : goal.returns-clause-visited
returns-clause-visited g c =
    if_both c.map_vec-back.result _ _ _ (λ v len each.
    have_visited g.H.Hooks.finds g.H.Hooks.names g.H.HookChanges.takes (λ s. begun c.args.cluster.now s.pass s.hooking.hooks s.hooking.table.listed s.placement) (λ p. p.pass) c.args.seats.items v.items (omega (arith, len, v.ok.0, c.args.seats.ok.0))
    (λ i seat back below. let job = (each i back below).1 in
    subst (λ s. HasVisited g.H.Hooks.finds g.H.Hooks.names g.H.HookChanges.takes (begun c.args.cluster.now s.pass s.hooking.hooks s.hooking.table.listed s.placement) (slice_index_or v.items i back).pass) (sym (job.job_is seat)) job.call.met))
    c.map_vec-back.ensures.len c.map_vec-back.ensures.each
