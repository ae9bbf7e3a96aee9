use Rattle.server_one_thread.proofs.RunLemmas.{completes_lead, breaks_lead, if_ok_on, on_err_on}
use Rattle.server_one_thread.proofs.serving.serve.Goals as goal

pub returns-clause-answers : goal.returns-clause-answers
returns-clause-answers g c = if_ok_on c.serve.result _ _
    (λ count h. λ now bytes before changes is remaining contents shows are.
    completes_lead c.changes_add_up.ensures c.hook_is_of_changes.ensures c.journals_go_on.ensures.more c.siblings_are_current.ensures.siblings c.siblings_are_current.ensures.clock c.merges_are_current.ensures
    g.B.Backend.gives g.B.Backend.copies now is bytes before c.args.store.now c.serve.new.backend changes shows are _ count (h bytes before remaining contents))
    c.serve.ensures.answers

pub returns-clause-breaks : goal.returns-clause-breaks
returns-clause-breaks g c = on_err_on c.serve.result
    (λ h. λ now bytes before changes is remaining contents shows are.
    breaks_lead c.changes_add_up.ensures c.hook_is_of_changes.ensures c.journals_go_on.ensures.more c.siblings_are_current.ensures.siblings c.siblings_are_current.ensures.clock c.merges_are_current.ensures
    g.B.Backend.gives g.B.Backend.copies now is bytes before c.args.store.now c.serve.new.backend changes shows are _ (h bytes before remaining contents))
    c.serve.ensures.breaks
