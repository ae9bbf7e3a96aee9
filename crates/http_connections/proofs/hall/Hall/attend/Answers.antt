use Rattle.http_connections.specs.Halls.{seat_at}
use Rattle.http_connections.proofs.HallLemmas.{goes_closed, goes_resting, stands_again}
use Rattle.http_connections.proofs.hall.Hall.attend.Goals as goal

pub returns-in-Some-clause-goes : goal.returns-in-Some-clause-goes
returns-in-Some-clause-goes g c = λ log old shown all.
    goes_closed g.B.Backend.gives (g.B.Backend.copies c.args.backend.now) g.R.Ring.shows c.args.backend.now c.attend_seat.new.backend log old (seat_at c.args.self.now) (seat_at c.attend_seat.new.self) all
    c.args.number c.args.ring.now c.attend_seat.new.ring c.attend_seat.result shown c.attend_seat.ensures.attends c.attend_seat.ensures.absent c.attend_seat.ensures.others
    c.in-Some.closing c.in-Some.is (seat_at c.unseat.new.self) c.unseat.ensures.gone c.unseat.ensures.others c.close.new.self c.close.ensures

pub returns-in-Some-clause-stands : goal.returns-in-Some-clause-stands
returns-in-Some-clause-stands g c = λ start old shown h.
    stands_again g.B.Backend.gives g.B.Backend.copies g.R.Ring.shows start c.args.backend.now c.attend_seat.new.backend old (seat_at c.args.self.now) (seat_at c.unseat.new.self) h c.args.number c.close.new.self c.attend_seat.ensures.stays
    (λ log all.
    goes_closed g.B.Backend.gives (g.B.Backend.copies c.args.backend.now) g.R.Ring.shows c.args.backend.now c.attend_seat.new.backend log old (seat_at c.args.self.now) (seat_at c.attend_seat.new.self) all
    c.args.number c.args.ring.now c.attend_seat.new.ring c.attend_seat.result shown c.attend_seat.ensures.attends c.attend_seat.ensures.absent c.attend_seat.ensures.others
    c.in-Some.closing c.in-Some.is (seat_at c.unseat.new.self) c.unseat.ensures.gone c.unseat.ensures.others c.close.new.self c.close.ensures)

pub returns-in_default-clause-goes : goal.returns-in_default-clause-goes
returns-in_default-clause-goes g c = λ log old shown all.
    goes_resting g.B.Backend.gives (g.B.Backend.copies c.args.backend.now) g.R.Ring.shows c.args.backend.now c.attend_seat.new.backend log old (seat_at c.args.self.now) (seat_at c.attend_seat.new.self) all
    c.args.number c.args.ring.now c.attend_seat.new.ring c.attend_seat.result shown c.attend_seat.ensures.attends c.attend_seat.ensures.absent c.attend_seat.ensures.others c.in_default.is

pub returns-in_default-clause-stands : goal.returns-in_default-clause-stands
returns-in_default-clause-stands g c = λ start old shown h.
    stands_again g.B.Backend.gives g.B.Backend.copies g.R.Ring.shows start c.args.backend.now c.attend_seat.new.backend old (seat_at c.args.self.now) (seat_at c.attend_seat.new.self) h c.args.number c.attend_seat.new.ring c.attend_seat.ensures.stays
    (λ log all.
    goes_resting g.B.Backend.gives (g.B.Backend.copies c.args.backend.now) g.R.Ring.shows c.args.backend.now c.attend_seat.new.backend log old (seat_at c.args.self.now) (seat_at c.attend_seat.new.self) all
    c.args.number c.args.ring.now c.attend_seat.new.ring c.attend_seat.result shown c.attend_seat.ensures.attends c.attend_seat.ensures.absent c.attend_seat.ensures.others c.in_default.is)
