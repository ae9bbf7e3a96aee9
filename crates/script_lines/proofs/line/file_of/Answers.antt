use Rattle.script_lines.proofs.Grammar.{right_file, wrong_file}
use Rattle.script_lines.proofs.line.file_of.Goals as goal

pub returns-in-Ok : goal.returns-in-Ok
returns-in-Ok c = (right_file c.args.word.now c.in-Ok.ensures.cases.1, c.in-Ok.ensures.cases.0)

pub returns-in-Err : goal.returns-in-Err
returns-in-Err c = wrong_file c.args.word.now c.in-Err.ensures.cases.0
