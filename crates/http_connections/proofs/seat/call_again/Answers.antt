use Rattle.std.proofs.Common.{refl, Err}
use Rattle.http_connection.specs.declared.fault.FrontFault.TheVariants as fault
use Rattle.http_connections.specs.Sockets.{after_call}
use Rattle.http_connections.specs.Spoken.{BreaksOff}
use Rattle.http_connections.proofs.SpokenLemmas.{speaks_breaks}
use Rattle.http_connections.proofs.MoveLemmas.{moved}
use Rattle.http_connections.proofs.seat.call_again.Goals as goal

pub returns-in-Err : goal.returns-in-Err
returns-in-Err g c = λ copies seat old xs shown serves.
    let came = c.in-Err.ensures old shown in
    moved (g.R.Ring.shows c.call_again.new.self) c.args.number old (λ s. BreaksOff copies fault.Read s xs) came.0 (after_call (Err c.in-Err.field-0)) came.1 came.2 refl
    (speaks_breaks copies _ _ _ (old c.args.number) xs serves fault.Read (after_call (Err c.in-Err.field-0) (old c.args.number)) refl refl refl)
