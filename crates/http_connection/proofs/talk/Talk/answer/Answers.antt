use Rattle.std.proofs.Common.{ap, ◌∙◌, drop}
use Rattle.http_connection.proofs.RequestLemmas.{on_err, halts_called, steps_answered, steps_last}
use Rattle.http_connection.proofs.talk.Talk.answer.Goals as goal

pub returns-in_err-push_reply-clause-halts : goal.returns-in_err-push_reply-clause-halts
returns-in_err-push_reply-clause-halts g c =
    let does = c.in_err-push_reply.ensures.does in
    on_err c.from_residual.result (halts_called g.B.Backend.gives c.args.copies (g.B.Backend.copies c.args.backend.now) c.requires.copies c.args.backend.now
    c.push_reply.new.backend c.args.ask.now does.0 c.args.ends c.args.self.now.waits c.args.len c.requires.finds.3 does.1)

pub returns-then-ends-clause-steps : goal.returns-then-ends-clause-steps
returns-then-ends-clause-steps g c =
    let does = c.in_ok-push_reply.ensures.does in
    steps_last g.B.Backend.gives c.args.copies (g.B.Backend.copies c.args.backend.now) c.requires.copies c.args.backend.now
    c.push_reply.new.backend c.args.ask.now does.0 c.args.ends c.args.self.now.waits c.args.len c.requires.finds.3 does.1
    c.take.new.self.waits c.args.self.now.unsent _ c.if-ends.true (c.take.ensures.unsent ∙ does.2)

pub returns-else-ends-clause-steps : goal.returns-else-ends-clause-steps
returns-else-ends-clause-steps g c =
    let does = c.in_ok-push_reply.ensures.does in
    steps_answered g.B.Backend.gives c.args.copies (g.B.Backend.copies c.args.backend.now) c.requires.copies c.args.backend.now
    c.push_reply.new.backend c.args.ask.now does.0 c.args.ends c.args.self.now.waits c.args.len c.requires.finds.3 does.1
    c.take.new.self.waits c.args.self.now.unsent _ c.if-ends.false
    (c.take.ensures.waits ∙ ap (drop c.args.len) c.in_ok-push_reply.ensures.waits) (c.take.ensures.unsent ∙ does.2) (c.requires.finds.1 c.if-ends.false) c.requires.finds.0
