use Rattle.std.proofs.Common.{Result, sym, subst, inl, List}
use Rattle.http_request.specs.Ask.{IsUnfinished}
use Rattle.http_connection.specs.declared.fault.FrontFault.{FrontFault}
use Rattle.http_connection.specs.declared.fault.FrontFault.TheVariants as fault
use Rattle.http_connections.specs.Spoken.{Speaks, Attends, Left}
use Rattle.http_connections.specs.declared.seat.Phase.{Phase}
use Rattle.http_connections.specs.declared.seat.Phase.TheVariants as phase
use Rattle.http_connections.specs.declared.seat.Round.{Round}
use Rattle.http_connections.specs.declared.seat.Seat.{Seat}
use Rattle.http_connections.proofs.SpokenLemmas.{err_is, speaks_on, speaks_over}
use Rattle.http_connections.proofs.MoveLemmas.{attends_halted, attends_answered, attends_last, attends_moved, unmoved}
use Rattle.http_connections.proofs.seat.Seat.round.Goals as goal

pub returns-in_err-step-in-Open-3-clause-leaves : goal.returns-in_err-step-in-Open-3-clause-leaves
returns-in_err-step-in-Open-3-clause-leaves g c = λ old xs shown serves.
    let copies = g.B.Backend.copies c.args.backend.now in
    let opens : Speaks copies phase.Open c.args.self.now.talk.waits c.args.self.now.talk.unsent (old c.args.number) xs =
    subst (λ (p : Phase). Speaks copies p c.args.self.now.talk.waits c.args.self.now.talk.unsent (old c.args.number) xs) c.in-Open-3.is serves in
    let it : Seat = record { phase = c.args.self.now.phase; talk = c.step.new.self } in
    subst (λ (r : Result Round FrontFault). Attends g.B.Backend.gives (g.R.Ring.shows c.args.ring.now) c.args.number old c.args.backend.now c.step.new.backend xs (Left copies r it))
    (sym (err_is c.from_residual.result fault.NoMemory c.from_residual.ensures.1))
    (attends_halted g.B.Backend.gives copies c.args.number (g.R.Ring.shows c.args.ring.now) old c.args.backend.now c.step.new.backend _ _ xs shown opens c.in_err-step-in-Open-3.ensures.halts)

pub returns-in-Answered-clause-leaves : goal.returns-in-Answered-clause-leaves
returns-in-Answered-clause-leaves g c = λ old xs shown serves.
    let copies = g.B.Backend.copies c.args.backend.now in
    let opens : Speaks copies phase.Open c.args.self.now.talk.waits c.args.self.now.talk.unsent (old c.args.number) xs =
    subst (λ (p : Phase). Speaks copies p c.args.self.now.talk.waits c.args.self.now.talk.unsent (old c.args.number) xs) c.in-Open-3.is serves in
    subst (λ (p : Phase). Attends g.B.Backend.gives (g.R.Ring.shows c.args.ring.now) c.args.number old c.args.backend.now c.step.new.backend xs
    (Speaks copies p c.step.new.self.waits c.step.new.self.unsent)) (sym c.in-Open-3.is)
    (attends_answered g.B.Backend.gives copies c.args.number (g.R.Ring.shows c.args.ring.now) old c.args.backend.now c.step.new.backend
    c.args.self.now.talk.waits c.args.self.now.talk.unsent xs shown opens _ _ (rw c.in-Answered.is at c.in_ok-step-in-Open-3.ensures.steps))

pub returns-in-Last-clause-leaves : goal.returns-in-Last-clause-leaves
returns-in-Last-clause-leaves g c = λ old xs shown serves.
    let copies = g.B.Backend.copies c.args.backend.now in
    let opens : Speaks copies phase.Open c.args.self.now.talk.waits c.args.self.now.talk.unsent (old c.args.number) xs =
    subst (λ (p : Phase). Speaks copies p c.args.self.now.talk.waits c.args.self.now.talk.unsent (old c.args.number) xs) c.in-Open-3.is serves in
    attends_last g.B.Backend.gives copies c.args.number (g.R.Ring.shows c.args.ring.now) old c.args.backend.now c.step.new.backend
    c.args.self.now.talk.waits c.args.self.now.talk.unsent xs shown opens _ _ (rw c.in-Last.is at c.in_ok-step-in-Open-3.ensures.steps)

pub exchange-requires-in-Waits-clause-pending : goal.exchange-requires-in-Waits-clause-pending
exchange-requires-in-Waits-clause-pending g c = let waits = rw c.in-Waits.is at c.in_ok-step-in-Open-3.ensures.steps in inl (subst IsUnfinished (sym waits.1) waits.0)

pub exchange-requires-clause-pending : goal.exchange-requires-clause-pending
exchange-requires-clause-pending g c = c.is_due.ensures.pending c.if-not-is_due.true

pub returns-in_err-step-in-Ended-clause-leaves : goal.returns-in_err-step-in-Ended-clause-leaves
returns-in_err-step-in-Ended-clause-leaves g c = λ old xs shown serves.
    let copies = g.B.Backend.copies c.args.backend.now in
    let ended : Speaks copies phase.Ended c.args.self.now.talk.waits c.args.self.now.talk.unsent (old c.args.number) xs =
    subst (λ (p : Phase). Speaks copies p c.args.self.now.talk.waits c.args.self.now.talk.unsent (old c.args.number) xs) c.in-Ended.is serves in
    let it : Seat = record { phase = c.args.self.now.phase; talk = c.step-in-Ended.new.self } in
    subst (λ (r : Result Round FrontFault). Attends g.B.Backend.gives (g.R.Ring.shows c.args.ring.now) c.args.number old c.args.backend.now c.step-in-Ended.new.backend xs (Left copies r it))
    (sym (err_is c.from_residual-in_err-step-in-Ended.result fault.NoMemory c.from_residual-in_err-step-in-Ended.ensures.1))
    (attends_halted g.B.Backend.gives copies c.args.number (g.R.Ring.shows c.args.ring.now) old c.args.backend.now c.step-in-Ended.new.backend _ _ xs shown
    (speaks_on copies _ _ (old c.args.number) xs ended) c.in_err-step-in-Ended.ensures.halts)

pub returns-in-Answered-2-clause-leaves : goal.returns-in-Answered-2-clause-leaves
returns-in-Answered-2-clause-leaves g c = λ old xs shown serves.
    let copies = g.B.Backend.copies c.args.backend.now in
    let ended : Speaks copies phase.Ended c.args.self.now.talk.waits c.args.self.now.talk.unsent (old c.args.number) xs =
    subst (λ (p : Phase). Speaks copies p c.args.self.now.talk.waits c.args.self.now.talk.unsent (old c.args.number) xs) c.in-Ended.is serves in
    attends_answered g.B.Backend.gives copies c.args.number (g.R.Ring.shows c.args.ring.now) old c.args.backend.now c.step-in-Ended.new.backend
    c.args.self.now.talk.waits c.args.self.now.talk.unsent xs shown (speaks_on copies _ _ (old c.args.number) xs ended) _ _
    (rw c.in-Answered-2.is at c.in_ok-step-in-Ended.ensures.steps)

pub returns-in-Last-2-clause-leaves : goal.returns-in-Last-2-clause-leaves
returns-in-Last-2-clause-leaves g c = λ old xs shown serves.
    let copies = g.B.Backend.copies c.args.backend.now in
    let ended : Speaks copies phase.Ended c.args.self.now.talk.waits c.args.self.now.talk.unsent (old c.args.number) xs =
    subst (λ (p : Phase). Speaks copies p c.args.self.now.talk.waits c.args.self.now.talk.unsent (old c.args.number) xs) c.in-Ended.is serves in
    attends_last g.B.Backend.gives copies c.args.number (g.R.Ring.shows c.args.ring.now) old c.args.backend.now c.step-in-Ended.new.backend
    c.args.self.now.talk.waits c.args.self.now.talk.unsent xs shown (speaks_on copies _ _ (old c.args.number) xs ended) _ _
    (rw c.in-Last-2.is at c.in_ok-step-in-Ended.ensures.steps)

pub returns-in-Waits-2-clause-leaves : goal.returns-in-Waits-2-clause-leaves
returns-in-Waits-2-clause-leaves g c = λ old xs shown serves.
    let copies = g.B.Backend.copies c.args.backend.now in
    let ended : Speaks copies phase.Ended c.args.self.now.talk.waits c.args.self.now.talk.unsent (old c.args.number) xs =
    subst (λ (p : Phase). Speaks copies p c.args.self.now.talk.waits c.args.self.now.talk.unsent (old c.args.number) xs) c.in-Ended.is serves in
    let waits = rw c.in-Waits-2.is at c.in_ok-step-in-Ended.ensures.steps in
    let over = speaks_over copies c.args.self.now.talk.waits c.args.self.now.talk.unsent (old c.args.number) xs ended waits.0 in
    let same = subst (λ (l : List _). Speaks copies phase.Closing l c.step-in-Ended.new.self.unsent (old c.args.number) xs) (sym waits.1)
    (subst (λ (l : List _). Speaks copies phase.Closing c.args.self.now.talk.waits l (old c.args.number) xs) (sym waits.3) over) in
    attends_moved g.B.Backend.gives c.args.number (g.R.Ring.shows c.args.ring.now) old xs
    (Speaks copies phase.Closing c.step-in-Ended.new.self.waits c.step-in-Ended.new.self.unsent) c.args.backend.now c.step-in-Ended.new.backend waits.2
    (unmoved (g.R.Ring.shows c.args.ring.now) c.args.number old (λ s. Speaks copies phase.Closing c.step-in-Ended.new.self.waits c.step-in-Ended.new.self.unsent s xs) shown same)
