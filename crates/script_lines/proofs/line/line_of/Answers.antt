use Rattle.std.proofs.Common.{◌≡◌, ◌++◌, ◌∷◌, [], subst, inr, rules}
use Rattle.script_lines.specs.Grammar.{IsRead}
use Rattle.script_lines.specs.Lines.{words_in}
use Rattle.script_lines.proofs.Cutting.{passes_not}
use Rattle.script_lines.proofs.line.line_of.Goals as goal

pub returns-in-Err-clause-spelled : goal.returns-in-Err-clause-spelled
returns-in-Err-clause-spelled c =
    let line = c.in-Some-eq10-default.line.now in
    let ended : c.args.bytes.now ≡ line ++ 10 ∷ [] = search rules in
    inr (line, ended, passes_not c.args.bytes.now line c.in-Some.field-0.now ended c.in-Some.ensures.value (search rules), subst (IsRead (words_in line)) c.in-Err.is c.in_ok-line-in-Some.ensures)
