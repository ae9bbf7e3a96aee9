use Rattle.std.proofs.Common.{refl, sym, Result, Ok, Err, subst, inr}
use Rattle.http_connection.specs.declared.fault.FrontFault.{FrontFault}
use Rattle.http_connection.specs.declared.fault.FrontFault.TheVariants as fault
use Rattle.http_connections.specs.Sockets.{after_read}
use Rattle.http_connections.specs.Spoken.{BreaksOff, Speaks, Serves, Rests, IsAnswered, Moves, Left}
use Rattle.http_connections.specs.declared.socket_ring.Heard.TheVariants as heard
use Rattle.http_connections.specs.declared.seat.Phase.{Phase}
use Rattle.http_connections.specs.declared.seat.Round.{Round}
use Rattle.http_connections.specs.declared.seat.Seat.{Seat}
use Rattle.http_connections.specs.declared.seat.Phase.TheVariants as phase
use Rattle.http_connections.proofs.SpokenLemmas.{speaks_breaks, speaks_unheard, speaks_ended, err_is}
use Rattle.http_connections.proofs.MoveLemmas.{moved}
use Rattle.http_connections.proofs.seat.Seat.hear.Goals as goal

pub returns-in_err-hear-in-Ok-Bytes : goal.returns-in_err-hear-in-Ok-Bytes
returns-in_err-hear-in-Ok-Bytes g c = λ copies old xs shown serves.
    let came = (rw c.in-Ok-Bytes.field-0-is at c.in-Ok-Bytes.ensures.changes) old shown in
    let opens : Speaks copies phase.Open c.args.self.now.talk.waits c.args.self.now.talk.unsent (old c.args.number) xs =
    subst (λ (p : Phase). Speaks copies p c.args.self.now.talk.waits c.args.self.now.talk.unsent (old c.args.number) xs) c.requires.open serves in
    let it : Seat = record { phase = c.args.self.now.phase; talk = c.hear.new.self } in
    subst (λ (r : Result Round FrontFault). Moves (g.R.Ring.shows c.read.new.self) c.args.number old (λ s. Left copies r it s xs)) (sym (err_is c.from_residual.result fault.NoMemory c.from_residual.ensures.1))
    (moved (g.R.Ring.shows c.read.new.self) c.args.number old (λ s. BreaksOff copies fault.NoMemory s xs) came.0 (after_read (Ok (heard.Bytes c.in-Ok-Bytes.n)) c.read.new.buf) came.1 came.2 refl
    (speaks_unheard copies _ _ (old c.args.number) xs opens c.in-Ok-Bytes.n c.read.new.buf))

pub returns-in-Ok-End : goal.returns-in-Ok-End
returns-in-Ok-End g c = λ copies old xs shown serves.
    let came = (rw c.in-Ok-End.field-0-is at c.in-Ok-End.ensures.changes) old shown in
    let opens : Speaks copies phase.Open c.args.self.now.talk.waits c.args.self.now.talk.unsent (old c.args.number) xs =
    subst (λ (p : Phase). Speaks copies p c.args.self.now.talk.waits c.args.self.now.talk.unsent (old c.args.number) xs) c.requires.open serves in
    moved (g.R.Ring.shows c.read.new.self) c.args.number old (λ s. Speaks copies phase.Ended c.args.self.now.talk.waits c.args.self.now.talk.unsent s xs) came.0 (after_read (Ok heard.End) c.read.new.buf) came.1 came.2 refl
    (speaks_ended copies _ _ (old c.args.number) xs opens c.read.new.buf)

pub returns-in-Ok-NotNow : goal.returns-in-Ok-NotNow
returns-in-Ok-NotNow g c = λ copies old xs shown serves.
    let came = (rw c.in-Ok-NotNow.field-0-is at c.in-Ok-NotNow.ensures.changes) old shown in
    let answered : IsAnswered c.args.self.now.phase c.args.self.now.talk.waits c.args.self.now.talk.unsent (after_read (Ok heard.NotNow) c.read.new.buf (old c.args.number)) =
    subst (λ (p : Phase). IsAnswered p c.args.self.now.talk.waits c.args.self.now.talk.unsent (after_read (Ok heard.NotNow) c.read.new.buf (old c.args.number))) (sym c.requires.open)
    (refl, c.requires.written, c.requires.pending) in
    moved (g.R.Ring.shows c.read.new.self) c.args.number old (λ s. Serves copies c.args.self.now s xs × Rests c.args.self.now s) came.0 (after_read (Ok heard.NotNow) c.read.new.buf) came.1 came.2 refl
    (record { reads = serves.reads; answers = serves.answers }, inr (inr answered))

pub returns-in-Err : goal.returns-in-Err
returns-in-Err g c = λ copies old xs shown serves.
    let came = c.in-Err.ensures.changes old shown in
    moved (g.R.Ring.shows c.read.new.self) c.args.number old (λ s. BreaksOff copies fault.Read s xs) came.0 (after_read (Err c.in-Err.field-0) c.read.new.buf) came.1 came.2 refl
    (speaks_breaks copies _ _ _ (old c.args.number) xs serves fault.Read (after_read (Err c.in-Err.field-0) c.read.new.buf (old c.args.number)) refl refl refl)
