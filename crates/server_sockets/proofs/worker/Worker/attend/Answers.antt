use Rattle.std.proofs.Common.{ℕ, sym, subst}
use Rattle.server_sockets.specs.Shows.{Shows}
use Rattle.server_sockets.proofs.worker.Worker.attend.Goals as goal

pub returns-in-Some : goal.returns-in-Some
returns-in-Some g c = (
  c.attend.ensures.stays,
  λ log s shown all.
      let done = c.attend.ensures.goes log s shown all in
      (done.0, subst (λ (k : ℕ). Shows k done.0) (sym c.note.ensures.next) done.1, done.2),
)

pub returns-in-None : goal.returns-in-None
returns-in-None g c = (
  c.attend.ensures.stays,
  λ log s shown all.
      let done = c.attend.ensures.goes log s shown all in
      (done.0, subst (λ (k : ℕ). Shows k done.0) (sym c.drain.ensures.next) done.1, done.2),
)
