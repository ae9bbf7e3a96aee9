use Rattle.std.proofs.Common.{ℕ, sym, subst}
use Rattle.server_sockets.specs.Shows.{Shows}
use Rattle.server_sockets.specs.Work.{Stays}
use Rattle.server_sockets.specs.declared.worker.Worker.{Worker}
use Rattle.server_sockets.proofs.worker.Worker.seat.Goals as goal
use Rattle.server_sockets.proofs.worker.Worker.seat.Goals.{else-ne, then-ne}

pub loop-preserved : goal.loop-preserved
loop-preserved g c =
    elim c.if-ne.branch [
      | then-ne w ↦ subst (λ (it : Worker). Stays c.args.self.now it) (sym w.self-is) (λ copies log s shown all.
          let mid = c.loop.invariant copies log s shown all in
          let came = w.admit.ensures.4 copies log mid.0 (subst (λ (k : ℕ). Shows k mid.0) (sym w.offer.ensures.next) mid.1) mid.2 in
          (came.0, came.1, came.2))
      | else-ne w ↦ subst (λ (it : Worker). Stays c.args.self.now it) (sym w.self-is) c.loop.invariant
    ]
