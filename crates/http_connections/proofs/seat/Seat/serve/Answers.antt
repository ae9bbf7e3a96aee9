use Rattle.http_connections.specs.Spoken.{Attended}
use Rattle.http_connections.proofs.HallLemmas.{attended_same}
use Rattle.http_connections.proofs.MoveLemmas.{attends_as}
use Rattle.http_connections.proofs.seat.Seat.serve.Goals as goal

pub returns-clause-attends : goal.returns-clause-attends
returns-clause-attends g c = λ old xs shown serves.
    let copies = g.B.Backend.copies c.args.backend.now in
    attends_as g.B.Backend.gives c.args.number (g.R.Ring.shows c.attend-ended.new.ring) old xs (Attended copies c.attend-ended.result c.attend-ended.new.self)
    (Attended copies c.attend-ended.result c.settle.new.self) c.args.backend.now c.attend-ended.new.backend (c.attend-ended.ensures.attends old xs shown serves)
    (attended_same copies c.attend-ended.result c.attend-ended.new.self c.settle.new.self c.settle.ensures.phase c.settle.ensures.waits c.settle.ensures.unsent)
