use Rattle.server_one_thread.specs.Passes.{all_calls, told_by}
use Rattle.server_receipts.proofs.OrderLemmas.{all_behind, rise}
use Rattle.server_receipts.proofs.laws.calls_come_in_order.Goals as goal

pub returns-clause-behind : goal.returns-clause-behind
returns-clause-behind g c = λ logs start end xs owns told. all_behind g.H.Hooks.finds g.H.Hooks.names g.H.HookChanges.takes logs start end xs owns told

pub returns-clause-rise : goal.returns-clause-rise
returns-clause-rise g c = λ logs start end xs owns told.
    rise (told_by start) (all_calls owns) (all_behind g.H.Hooks.finds g.H.Hooks.names g.H.HookChanges.takes logs start end xs owns told)
