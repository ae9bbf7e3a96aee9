use Rattle.std.proofs.Common.{arith}
use Rattle.script_lines.proofs.Grammar.{right_index, wrong_index}
use Rattle.script_lines.proofs.line.number_of.Goals as goal

pub returns-in-Some : goal.returns-in-Some
returns-in-Some c = (right_index c.args.word.now c.in-Some.number (omega arith) c.in-Some.ensures.some, c.in-Some.ensures.some)

pub returns-in-None : goal.returns-in-None
returns-in-None c = wrong_index c.args.word.now c.in-None.ensures.none
