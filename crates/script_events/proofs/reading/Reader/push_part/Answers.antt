use Rattle.std.proofs.Common.{refl}
use Rattle.std.proofs.lemmas.Result.{on_ok_weaker}
use Rattle.script_events.proofs.Growing.{one_more}
use Rattle.script_events.proofs.reading.Reader.push_part.Goals as goal

pub returns-clause-runnable : goal.returns-clause-runnable
returns-clause-runnable c used listed runnable = on_ok_weaker c.push.result (λ more. one_more _ _ _ _ _ _ runnable (c.requires.within, c.requires.earlier) more refl) c.push.ensures.more
