use Rattle.std.proofs.Common.{inl, inr, ap, ◌∙◌}
use Rattle.http_connection.specs.declared.fault.FrontFault.TheVariants as fault
use Rattle.http_connections.specs.Sockets.{after_accept, after_close}
use Rattle.http_connections.specs.Halls.{seat_at}
use Rattle.http_connections.specs.declared.socket_ring.Closing.TheVariants.{Broken}
use Rattle.http_connections.proofs.HallLemmas.{admitted, turned_away}
use Rattle.http_connections.proofs.MoveLemmas.{only_then}
use Rattle.http_connections.proofs.hall.Hall.greet.Goals as goal

pub returns-in-Ok : goal.returns-in-Ok
returns-in-Ok g c = λ copies log old mid shown all before came.
    let seated = c.in-Ok.ensures.seated in (
      mid,
      shown,
      admitted copies log c.args.number old mid (seat_at c.args.self.now) (seat_at c.seat.new.self) all before came c.in-Ok.ensures.others seated.0 seated.1 seated.2,
      (before, came.only, inl (came.there ∙ ap after_accept before, seated.0, seated.1)),
    )

pub returns-in-Err : goal.returns-in-Err
returns-in-Err g c = λ copies log old mid shown all before came.
    let closed = c.close.ensures mid shown in (
      closed.0,
      closed.1,
      turned_away copies log c.args.number old mid (seat_at c.args.self.now) (seat_at c.seat.new.self) all before came c.in-Err.ensures.others closed.0 c.in-Err.ensures.err closed.2,
      (
        before,
        only_then c.args.number old mid closed.0 came.only closed.2.only,
        inr (closed.2.there ∙ ap (after_close (Broken fault.NoMemory)) (came.there ∙ ap after_accept before)),
      ),
    )
