use Rattle.std.specs.Prelude.{◌++◌}
use Rattle.std.proofs.lemmas.List.Elements.{Contains-append_left}
use Rattle.server_one_thread.specs.Passes.{all_calls}
use Rattle.server_receipts.proofs.FrontLemmas.{come_behind}
use Rattle.server_receipts.proofs.laws.answers_are_of_the_run.Goals as goal

pub returns-clause-behind : goal.returns-clause-behind
returns-clause-behind g c = λ told others logs gathered fronts made start end xs owns are within begin run.
    c.calls_are_of_the_run.ensures.calls (told ++ others) logs gathered begin fronts run (all_calls owns) (c.calls_come_in_order.ensures.rise logs start end xs owns are)
    (λ t has. Contains-append_left told others t (within t has))
    (λ t has. come_behind told others logs gathered (c.gathered_are_journals.ensures.differ (told ++ others) logs gathered) (c.receipts_stand.ensures (told ++ others) logs gathered) fronts made t (within t has))

pub returns-clause-whole : goal.returns-clause-whole
returns-clause-whole g c = λ told logs gathered run start end xs owns are within.
    c.calls_are_of_the_run.ensures.whole told logs gathered run (all_calls owns) (c.calls_come_in_order.ensures.rise logs start end xs owns are) within
