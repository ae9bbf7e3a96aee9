use Rattle.dvvstore.specs.Visits.{begun}
use Rattle.dvvstore.proofs.VisitLemmas.{not_visited}
use Rattle.dvvstore.proofs.crew.working.work.Goals as goal

pub returns-in_default : goal.returns-in_default
returns-in_default g c =
    record { visited = not_visited g.H.Hooks.finds g.H.Hooks.names g.H.HookChanges.takes (begun c.args.floor.now.cluster.now c.args.seat.pass c.args.seat.hooking.hooks c.args.seat.hooking.table.listed c.args.seat.placement) _ c.leave.ensures.pass }

pub returns-in_default-take_worker : goal.returns-in_default-take_worker
returns-in_default-take_worker g c =
    record { visited = not_visited g.H.Hooks.finds g.H.Hooks.names g.H.HookChanges.takes (begun c.args.floor.now.cluster.now c.args.seat.pass c.args.seat.hooking.hooks c.args.seat.hooking.table.listed c.args.seat.placement) _ c.leave-in_default-take_worker.ensures.pass }

pub returns : goal.returns
returns g c = record { visited = c.visit-passes.ensures.visited c.in-Some-take_worker.ensures.none }
