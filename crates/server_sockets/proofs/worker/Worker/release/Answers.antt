use Rattle.std.proofs.Common.{ℕ, sym, subst}
use Rattle.server_sockets.specs.Shows.{Shows}
use Rattle.server_sockets.proofs.worker.Worker.release.Goals as goal

pub returns : goal.returns
returns g c = (c.attend_all.ensures.0, λ log s shown all. c.attend_all.ensures.1 log s (subst (λ (k : ℕ). Shows k s) (sym c.take_untold-untold.ensures.next) shown) all)
