use Rattle.std.proofs.Common.{sym}
use Rattle.std.proofs.lemmas.List.{drop_all}
use Rattle.script_run.proofs.Telling.{goes_on, ends}
use Rattle.script_run.proofs.printing.print_answers.Goals as goal

pub loop-answer-preserved : goal.loop-answer-preserved
loop-answer-preserved g c = goes_on _ _ _ _ _ _ _ _ c.answer-item.result c.loop-answer.invariant c.loop-answer-test.true (sym c.answer-item.is) c.in_ok-left.ensures

pub returns : goal.returns
returns g c = ends _ _ _ _ _ _ c.loop-answer.invariant (drop_all _ _ c.loop-answer-test.false)
