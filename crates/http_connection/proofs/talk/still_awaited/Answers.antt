use Rattle.std.proofs.Common.{ap, sym, ◌∙◌}
use Rattle.http_connection.specs.Pending.{has_come}
use Rattle.http_connection.proofs.PendingLemmas.{lacks_more}
use Rattle.http_connection.proofs.talk.still_awaited.Goals as goal

pub returns-else-came : goal.returns-else-came
returns-else-came c = λ before len lacks.
    let wanted = c.in-Some.wanted in
    lacks_more wanted before c.args.bytes.now (rw c.in-Some.is at lacks) (ap (has_come wanted c.args.bytes.now) (sym len) ∙ (sym c.came.ensures ∙ c.if-came.false))
