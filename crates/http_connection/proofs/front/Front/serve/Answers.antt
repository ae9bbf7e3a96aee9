use Rattle.std.proofs.Common.{◌∙◌, refl, subst, sym}
use Rattle.http_connection.specs.Device.{HasRisen}
use Rattle.http_connection.specs.Dialogue.{Completes}
use Rattle.http_connection.specs.Turns.{SoFar}
use Rattle.http_connection.proofs.TalkLemmas.{so_far-start, rises_risen}
use Rattle.http_connection.proofs.front.Front.serve.Goals as goal

pub requests-init : goal.requests-init
requests-init g c = record {
  talk = λ bytes before known held.
      so_far-start g.B.Backend.gives g.B.Backend.copies bytes before c.new-talk.result.waits c.args.backend.now
      (g.S.Source.remaining c.args.source.now) (g.W.Sink.contents c.args.sink.now) c.new-talk.result.unsent
      c.new-talk.ensures.waits known held c.new-talk.ensures.unsent;
  reads = refl;
  writes = refl;
}

pub requests-preserved-in-Ok-Read : goal.requests-preserved-in-Ok-Read
requests-preserved-in-Ok-Read g c =
    let leads = rw c.in-Ok-Read.field-0-is at c.in-Ok-Read.ensures.leads in record {
      talk = λ bytes before known held. leads bytes before c.args.backend.now c.requests.answered (c.requests.invariant.talk bytes before known held);
      reads = c.in-Ok-Read.ensures.reads ∙ c.requests.invariant.reads;
      writes = c.in-Ok-Read.ensures.writes ∙ c.requests.invariant.writes;
    }

pub requests-preserved : goal.requests-preserved
requests-preserved g c =
    let leads = rw c.in-Ok-Answered.field-0-is at c.in-Ok-Answered.ensures.leads in record {
      talk = λ bytes before known held.
          subst (λ n. SoFar g.B.Backend.gives g.B.Backend.copies bytes before c.args.backend.now c.take_turn.new.backend
          c.take_turn.new.talk.waits (g.S.Source.remaining c.take_turn.new.source)
          (g.W.Sink.contents c.take_turn.new.sink) c.take_turn.new.talk.unsent n)
          (sym c.saturating_add-answered.ensures)
          (leads bytes before c.args.backend.now c.requests.answered (c.requests.invariant.talk bytes before known held));
      reads = c.in-Ok-Answered.ensures.reads ∙ c.requests.invariant.reads;
      writes = c.in-Ok-Answered.ensures.writes ∙ c.requests.invariant.writes;
    }

pub returns-in-Ok-Last-clause-answers : goal.returns-in-Ok-Last-clause-answers
returns-in-Ok-Last-clause-answers g c =
    let leads = rw c.in-Ok-Last.field-0-is at c.in-Ok-Last.ensures.leads in
    λ bytes before known held.
    subst (Completes g.B.Backend.gives (g.B.Backend.copies c.args.backend.now) bytes c.args.backend.now c.take_turn.new.backend before (g.W.Sink.contents c.take_turn.new.sink))
    (sym c.saturating_add.ensures)
    (leads bytes before c.args.backend.now c.requests.answered (c.requests.invariant.talk bytes before known held))

pub returns-in-Ok-Over-clause-answers : goal.returns-in-Ok-Over-clause-answers
returns-in-Ok-Over-clause-answers g c =
    let leads = rw c.in-Ok-Over.field-0-is at c.in-Ok-Over.ensures.leads in
    λ bytes before known held. leads bytes before c.args.backend.now c.requests.answered (c.requests.invariant.talk bytes before known held)

pub returns-in-Err-clause-breaks : goal.returns-in-Err-clause-breaks
returns-in-Err-clause-breaks g c =
    λ bytes before known held.
    c.in-Err.ensures.breaks bytes before c.args.backend.now c.requests.answered (c.requests.invariant.talk bytes before known held)

pub returns-in-Err-clause-unread : goal.returns-in-Err-clause-unread
returns-in-Err-clause-unread g c =
    λ fault bytes before known held.
    c.in-Err.ensures.unread fault bytes before c.args.backend.now c.requests.answered (c.requests.invariant.talk bytes before known held)

pub returns-in-Err-clause-read_fault : goal.returns-in-Err-clause-read_fault
returns-in-Err-clause-read_fault g c =
    λ fault. subst (λ n. HasRisen n (g.S.Source.failures c.take_turn.new.source)) c.requests.invariant.reads (rises_risen _ _ (c.in-Err.ensures.read_fault fault))

pub returns-in-Err-clause-write_fault : goal.returns-in-Err-clause-write_fault
returns-in-Err-clause-write_fault g c =
    λ fault. subst (λ n. HasRisen n (g.W.Sink.failures c.take_turn.new.sink)) c.requests.invariant.writes (rises_risen _ _ (c.in-Err.ensures.write_fault fault))
