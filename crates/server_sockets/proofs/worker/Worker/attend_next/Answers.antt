use Rattle.std.proofs.Common.{ℕ, refl, sym, subst}
use Rattle.server_sockets.specs.Shows.{Shows}
use Rattle.server_sockets.proofs.WorkLemmas.{stays_same, works_stays}
use Rattle.server_sockets.proofs.worker.Worker.attend_next.Goals as goal

pub returns-in-Some : goal.returns-in-Some
returns-in-Some g c = (c.attend.ensures.0, λ log s shown all. c.attend.ensures.1 log s (subst (λ (k : ℕ). Shows k s) (sym c.next_called.ensures.next) shown) all)

pub returns-in-None : goal.returns-in-None
returns-in-None g c =
    works_stays g.B.Backend.gives g.B.Backend.copies c.args.self.now (record c.args.self.now { sockets = c.next_called.new.self }) c.args.backend.now
    (stays_same c.args.self.now (record c.args.self.now { sockets = c.next_called.new.self }) refl c.next_called.ensures.next)
