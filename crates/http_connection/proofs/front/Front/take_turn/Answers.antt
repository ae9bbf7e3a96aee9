use Rattle.std.proofs.Common.{[], subst, sym, inl, refl, ◌∙◌}
use Rattle.http_request.specs.Ask.{IsUnfinished}
use Rattle.http_connection.proofs.RequestLemmas.{on_err, if_err_and}
use Rattle.http_connection.proofs.TurnLemmas.{turn_reads, turn_over, turn_unread, turn_answered, turn_ends, breaks_reading, breaks_answered, breaks_last, breaks_halting}
use Rattle.http_connection.proofs.front.Front.take_turn.Goals as goal

pub read_more-requires : goal.read_more-requires
read_more-requires g c =
    let waits = rw c.in-Waits.is at c.in_ok-step.ensures.steps in
    record { pending = inl (subst IsUnfinished (sym waits.1) waits.0) }

pub returns-in_err-step-clause-breaks : goal.returns-in_err-step-clause-breaks
returns-in_err-step-clause-breaks g c = λ bytes before start count so.
    on_err _ (breaks_halting g.B.Backend.gives g.B.Backend.copies bytes before start c.args.backend.now c.step.new.backend count
    c.args.talk.now.waits [] (g.S.Source.remaining c.args.source.now) (g.W.Sink.contents c.args.sink.now)
    c.args.talk.now.unsent [] so c.in_err-step.ensures.stays c.in_err-step.ensures.halts)

pub returns-in_err-n-in-Waits-clause-breaks : goal.returns-in_err-n-in-Waits-clause-breaks
returns-in_err-n-in-Waits-clause-breaks g c = λ bytes before start count so.
    let waits = rw c.in-Waits.is at c.in_ok-step.ensures.steps in
    let failed = c.in_err-n-in-Waits.ensures.breaks in
    on_err _ (breaks_reading g.B.Backend.gives g.B.Backend.copies bytes before start c.args.backend.now c.step.new.backend count
    c.args.talk.now.waits c.step.new.self.waits (g.S.Source.remaining c.args.source.now) (g.W.Sink.contents c.args.sink.now)
    c.args.talk.now.unsent c.step.new.self.unsent so _ waits (g.W.Sink.contents c.read_more.new.sink) failed.0 failed.1)

pub returns-in_err-n-in-Waits-clause-unread : goal.returns-in_err-n-in-Waits-clause-unread
returns-in_err-n-in-Waits-clause-unread g c =
    if_err_and c.from_residual-in_err-n-in-Waits.result _ _ c.from_residual-in_err-n-in-Waits.ensures.1
    (λ fault same is bytes before start count so.
    let waits = rw c.in-Waits.is at c.in_ok-step.ensures.steps in
    let left = c.in_err-n-in-Waits.ensures.unread (sym same ∙ is) in
    turn_unread g.B.Backend.gives g.B.Backend.copies bytes before start c.args.backend.now c.step.new.backend count
    c.args.talk.now.waits c.step.new.self.waits (g.S.Source.remaining c.args.source.now) (g.W.Sink.contents c.args.sink.now)
    c.args.talk.now.unsent c.step.new.self.unsent so _ waits (g.W.Sink.contents c.read_more.new.sink) [] left.2
    c.read_more.new.talk.waits (g.S.Source.remaining c.read_more.new.source) left.0.0 left.0.1 left.0.2 left.1 refl)

pub returns-then-n-eq0-clause-leads : goal.returns-then-n-eq0-clause-leads
returns-then-n-eq0-clause-leads g c = λ bytes before start count so.
    let waits = rw c.in-Waits.is at c.in_ok-step.ensures.steps in
    let read = c.in_ok-n-in-Waits.ensures.read in
    turn_over g.B.Backend.gives g.B.Backend.copies bytes before start c.args.backend.now c.step.new.backend count
    c.args.talk.now.waits c.step.new.self.waits (g.S.Source.remaining c.args.source.now) (g.W.Sink.contents c.args.sink.now)
    c.args.talk.now.unsent c.step.new.self.unsent so _ waits (g.W.Sink.contents c.read_more.new.sink) _ c.in_ok-n-in-Waits.ensures.written
    c.read_more.new.talk.waits (g.S.Source.remaining c.read_more.new.source) read.0 read.2 read.3 (read.1 ∙ c.if-n-eq0.true)
    (read.4 c.if-n-eq0.true) c.in_ok-n-in-Waits.ensures.empty

pub returns-else-n-eq0-clause-leads : goal.returns-else-n-eq0-clause-leads
returns-else-n-eq0-clause-leads g c = λ bytes before start count so.
    let waits = rw c.in-Waits.is at c.in_ok-step.ensures.steps in
    let read = c.in_ok-n-in-Waits.ensures.read in
    turn_reads g.B.Backend.gives g.B.Backend.copies bytes before start c.args.backend.now c.step.new.backend count
    c.args.talk.now.waits c.step.new.self.waits (g.S.Source.remaining c.args.source.now) (g.W.Sink.contents c.args.sink.now)
    c.args.talk.now.unsent c.step.new.self.unsent so _ waits (g.W.Sink.contents c.read_more.new.sink) _ c.in_ok-n-in-Waits.ensures.written
    c.read_more.new.talk.waits (g.S.Source.remaining c.read_more.new.source) read.0 read.2 read.3

pub returns-in_err-flush_many-in-Answered-clause-breaks : goal.returns-in_err-flush_many-in-Answered-clause-breaks
returns-in_err-flush_many-in-Answered-clause-breaks g c = λ bytes before start count so.
    let answered = rw c.in-Answered.is at c.in_ok-step.ensures.steps in
    let failed = c.in_err-flush_many-in-Answered.ensures.err in
    on_err _ (breaks_answered g.B.Backend.gives g.B.Backend.copies bytes before start c.args.backend.now c.step.new.backend count
    c.args.talk.now.waits c.step.new.self.waits (g.S.Source.remaining c.args.source.now) (g.W.Sink.contents c.args.sink.now)
    c.args.talk.now.unsent c.step.new.self.unsent so c.in_ok-step.ensures.stays answered (g.W.Sink.contents c.flush_many.new.sink) failed.0 failed.1)

pub returns-in_ok-flush_many-in-Answered-clause-leads : goal.returns-in_ok-flush_many-in-Answered-clause-leads
returns-in_ok-flush_many-in-Answered-clause-leads g c = λ bytes before start count so.
    let answered = rw c.in-Answered.is at c.in_ok-step.ensures.steps in
    rw c.in_ok-flush_many-in-Answered.ensures.waits (turn_answered g.B.Backend.gives g.B.Backend.copies bytes before start c.args.backend.now c.step.new.backend count
    c.args.talk.now.waits c.step.new.self.waits (g.S.Source.remaining c.args.source.now) (g.W.Sink.contents c.args.sink.now)
    c.args.talk.now.unsent c.step.new.self.unsent so c.in_ok-step.ensures.stays answered
    (g.W.Sink.contents c.flush_many.new.sink) _ c.in_ok-flush_many-in-Answered.ensures.ok)

pub returns-in_err-flush-in-Last-clause-breaks : goal.returns-in_err-flush-in-Last-clause-breaks
returns-in_err-flush-in-Last-clause-breaks g c = λ bytes before start count so.
    let last = rw c.in-Last.is at c.in_ok-step.ensures.steps in
    let failed = c.in_err-flush-in-Last.ensures.err in
    on_err _ (breaks_last g.B.Backend.gives g.B.Backend.copies bytes before start c.args.backend.now c.step.new.backend count
    c.args.talk.now.waits c.step.new.self.waits (g.S.Source.remaining c.args.source.now) (g.W.Sink.contents c.args.sink.now)
    c.args.talk.now.unsent c.step.new.self.unsent so c.in_ok-step.ensures.stays last (g.W.Sink.contents c.flush.new.sink) failed.0 failed.1)

pub returns-in_ok-flush-in-Last-clause-leads : goal.returns-in_ok-flush-in-Last-clause-leads
returns-in_ok-flush-in-Last-clause-leads g c = λ bytes before start count so.
    let last = rw c.in-Last.is at c.in_ok-step.ensures.steps in
    turn_ends g.B.Backend.gives g.B.Backend.copies bytes before start c.args.backend.now c.step.new.backend count
    c.args.talk.now.waits c.step.new.self.waits (g.S.Source.remaining c.args.source.now) (g.W.Sink.contents c.args.sink.now)
    c.args.talk.now.unsent c.step.new.self.unsent so c.in_ok-step.ensures.stays last
    (g.W.Sink.contents c.flush.new.sink) _ c.in_ok-flush-in-Last.ensures.ok c.in_ok-flush-in-Last.ensures.empty
