use Rattle.std.proofs.lemmas.Result.{IfOk-weaker}
use Rattle.script_events.specs.Asking.{passed}
use Rattle.script_events.proofs.Asked.{asks_more}
use Rattle.script_events.proofs.reading.Reader.read.Goals as goal

pub returns-in-PassedOver-clause-asks : goal.returns-in-PassedOver-clause-asks
returns-in-PassedOver-clause-asks g c = λ lines come. passed lines _ _ come (rw c.in-PassedOver.is at c.in_ok-line_of.ensures.passed_over) (rw c.in-PassedOver.is at c.in_ok-line_of.ensures.spelled)

pub returns-in-Line-clause-asks : goal.returns-in-Line-clause-asks
returns-in-Line-clause-asks g c = IfOk-weaker c.read_line.result _ _ (λ bad asks. asks_more _ _ c.in-Line.line _ _ (rw c.in-Line.is at c.in_ok-line_of.ensures.spelled) bad asks) c.read_line.ensures.asks
