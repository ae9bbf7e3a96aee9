use Rattle.std.proofs.Common.{◌∙◌, arith, ap, sym, decimal}
use Rattle.script_lines.proofs.Grammar.{right_incarnation, wrong_incarnation}
use Rattle.script_lines.proofs.line.incarnation_of.Goals as goal

pub returns-in-Ok : goal.returns-in-Ok
returns-in-Ok c =
    let is = c.in_ok-number_of.ensures.1 ∙ ap decimal (sym c.in-Ok.ensures.1) in
    (right_incarnation c.args.word.now c.in-Ok.incarnation (omega arith) is, is)

pub returns-in-Err : goal.returns-in-Err
returns-in-Err c = wrong_incarnation c.args.word.now c.in_ok-number_of.field-0 (omega arith) c.in-Err.ensures c.in_ok-number_of.ensures.1
