use Rattle.std.proofs.Common.{sym, ◌∙◌}
use Rattle.http_connections.specs.Halls.{seat_at}
use Rattle.http_connections.proofs.HallLemmas.{stands_given_up}
use Rattle.http_connections.proofs.hall.Hall.give_up.Goals as goal

pub returns-then-contains_key-clause-stands : goal.returns-then-contains_key-clause-stands
returns-then-contains_key-clause-stands g c = λ copies log old shown all.
    let closed = c.close.ensures old shown in (
      closed.0,
      closed.1,
      stands_given_up copies log c.args.number old closed.0 (seat_at c.args.self.now) (seat_at c.unseat.new.self) all (sym c.contains_key.ensures ∙ c.if-contains_key.true) c.unseat.ensures.gone c.unseat.ensures.others closed.2,
      closed.2.only,
    )
