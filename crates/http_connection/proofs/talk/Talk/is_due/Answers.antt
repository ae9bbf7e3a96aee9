use Rattle.std.proofs.Common.{ap, subst, ◌∙◌}
use Rattle.std.specs.Prelude.{not}
use Rattle.http_connection.specs.Pending.{IsPending}
use Rattle.http_connection.specs.Waiting.{waiting}
use Rattle.http_connection.proofs.PendingLemmas.{due_pending}
use Rattle.http_connection.proofs.talk.Talk.is_due.Goals as goal

pub returns-clause-pending : goal.returns-clause-pending
returns-clause-pending c =
    let t = c.self.inside in
    λ none. subst IsPending (ap (λ v. v.waits) c.self.view_is) (due_pending t.awaited (waiting t.inbox) (c.is_none.ensures ∙ ap not none) c.self.invariant.1)
