use Rattle.std.specs.Prelude.{string_bytes}
use Rattle.script_run.proofs.Telling.{IsToldSoFar}
use Rattle.script_run.proofs.printing.print_answers.Given as goal

-- the lines so far were printed
abbrev pub invariant-loop-answer : goal.invariant-loop-answer
invariant-loop-answer g l = IsToldSoFar l.table.listed l.answered l.replies l.answer-index l.left (string_bytes l.text)
