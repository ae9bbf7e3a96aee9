use Rattle.std.proofs.Common.{ap, ◌∙◌, drop, ◌++◌, inl}
use Rattle.http_connection.proofs.RequestLemmas.{on_err, steps_going}
use Rattle.http_connection.proofs.talk.Talk.tell_to_go_on.Goals as goal

pub returns-in_err-push_reply-clause-halts : goal.returns-in_err-push_reply-clause-halts
returns-in_err-push_reply-clause-halts g c = on_err c.from_residual.result (inl c.in_err-push_reply.ensures.does.1)

pub returns-clause-steps : goal.returns-clause-steps
returns-clause-steps g c =
    let does = c.in_ok-push_reply.ensures.does in
    let finds = c.requires.finds in
    steps_going g.B.Backend.gives c.args.copies (g.B.Backend.copies c.args.backend.now) c.requires.copies c.args.backend.now
    c.push_reply.new.backend does.0 c.args.self.now.waits c.args.head.items c.args.len finds.3 does.1 c.change_head.new.self.waits
    c.args.self.now.unsent _ (c.change_head.ensures.waits ∙ (ap (λ h. h ++ drop c.args.len c.push_reply.new.self.waits) c.as_slice.ensures.value
    ∙ ap (λ w. c.args.head.items ++ drop c.args.len w) c.in_ok-push_reply.ensures.waits))
    (c.change_head.ensures.unsent ∙ does.2) finds.1 finds.2
