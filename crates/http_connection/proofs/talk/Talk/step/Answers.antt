use Rattle.std.proofs.Common.{OnErr, subst}
use Rattle.http_connection.specs.Turns.{Halts}
use Rattle.http_connection.proofs.talk.Talk.step.Goals as goal

pub returns-in-First-clause-halts : goal.returns-in-First-clause-halts
returns-in-First-clause-halts g c =
    subst (λ waits. OnErr c.answer.result (Halts g.B.Backend.gives (g.B.Backend.copies c.args.backend.now) waits c.args.backend.now c.answer.new.backend))
    c.in_ok-asking.ensures.waits c.answer.ensures.halts

pub returns-in-GoOn-clause-halts : goal.returns-in-GoOn-clause-halts
returns-in-GoOn-clause-halts g c =
    subst (λ waits. OnErr c.tell_to_go_on.result (Halts g.B.Backend.gives (g.B.Backend.copies c.args.backend.now) waits c.args.backend.now c.tell_to_go_on.new.backend))
    c.in_ok-asking.ensures.waits c.tell_to_go_on.ensures.halts
