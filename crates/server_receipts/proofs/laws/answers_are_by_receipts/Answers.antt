use Rattle.server_receipts.proofs.ToldLemmas.{all_told}
use Rattle.server_receipts.proofs.laws.answers_are_by_receipts.Goals as goal

pub returns : goal.returns
returns g c = λ told logs gathered start end xs owns calls within.
    all_told g.H.Hooks.finds g.H.Hooks.names g.H.HookChanges.takes c.journals_go_on.ensures.front c.siblings_are_current.ensures.siblings c.siblings_are_current.ensures.clock c.merges_are_current.ensures
    logs (c.gathered_are_journals.ensures.journals told logs gathered) (c.gathered_are_journals.ensures.differ told logs gathered)
    start end xs owns calls (λ t in_calls. c.receipts_stand.ensures told logs gathered t (within t in_calls))
