use Rattle.std.proofs.Common.{ℕ, sym, subst}
use Rattle.server_sockets.specs.Shows.{Shows}
use Rattle.server_sockets.proofs.worker.Worker.wait.Goals as goal

pub returns : goal.returns
returns g c = λ copies log s shown all.
    (s, subst (λ (k : ℕ). Shows k s) (sym c.note_reported.ensures.next) (subst (λ (k : ℕ). Shows k s) (sym c.wait.ensures.next) shown), all)
