use Rattle.std.proofs.Common.{refl}
use Rattle.http_connections.specs.Spoken.{Attended}
use Rattle.http_connections.proofs.MoveLemmas.{attends_moved}
use Rattle.http_connections.proofs.hall.Hall.attend_seat.Goals as goal

pub returns-then-is_full-clause-attends : goal.returns-then-is_full-clause-attends
returns-then-is_full-clause-attends g c = λ old xs seat shown is serves.
    let copies = g.B.Backend.copies c.args.backend.now in
    let told = c.write_out.ensures.moves copies old xs seat shown is serves in (
      told.0,
      told.1,
      attends_moved g.B.Backend.gives c.args.number (g.R.Ring.shows c.write_out.new.ring) old xs (Attended copies c.write_out.result told.0) c.args.backend.now c.args.backend.now refl told.2,
    )
