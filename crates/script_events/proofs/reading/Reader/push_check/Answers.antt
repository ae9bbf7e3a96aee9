use Rattle.std.proofs.Common.{refl}
use Rattle.std.proofs.lemmas.Result.{on_ok_weaker}
use Rattle.script_events.proofs.Asked.{adds_check}
use Rattle.script_events.proofs.Growing.{one_more}
use Rattle.script_events.proofs.reading.Reader.push_check.Goals as goal

pub returns-clause-runnable : goal.returns-clause-runnable
returns-clause-runnable c used listed runnable = on_ok_weaker c.push_answered.result (λ more. one_more _ _ _ _ _ _ runnable c.requires.within more refl) c.push_answered.ensures.more

pub returns-clause-checks : goal.returns-clause-checks
returns-clause-checks c = on_ok_weaker c.push_answered.result (λ more. adds_check _ _ _ _ _ _ _ c.in_ok-key.ensures c.in_ok-new.ensures more) c.push_answered.ensures.more
