use Rattle.std.proofs.Common.{refl, Err}
use Rattle.http_connection.specs.declared.fault.FrontFault.TheVariants as fault
use Rattle.http_connections.specs.Sockets.{after_write}
use Rattle.http_connections.specs.Spoken.{BreaksOff}
use Rattle.http_connections.proofs.SpokenLemmas.{speaks_breaks}
use Rattle.http_connections.proofs.MoveLemmas.{moved}
use Rattle.http_connections.proofs.seat.Seat.tell.Goals as goal

pub returns-in-Err-clause-leaves : goal.returns-in-Err-clause-leaves
returns-in-Err-clause-leaves g c = λ copies old xs shown serves.
    let came = c.in-Err.ensures.changes old shown in
    moved (g.R.Ring.shows c.write.new.self) c.args.number old (λ s. BreaksOff copies fault.Write s xs) came.0 (after_write (Err c.in-Err.field-0) c.unsent.result.now) came.1 came.2 refl
    (speaks_breaks copies _ _ _ (old c.args.number) xs serves fault.Write (after_write (Err c.in-Err.field-0) c.unsent.result.now (old c.args.number)) refl refl refl)
