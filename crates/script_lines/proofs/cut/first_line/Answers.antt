use Rattle.std.proofs.Common.{◌∙◌, length, arith, sym}
use Rattle.std.proofs.lemmas.Bool.{eqb-false}
use Rattle.script_lines.proofs.Cutting.{cut_at, uncut}
use Rattle.script_lines.proofs.cut.first_line.Goals as goal

pub returns-then-byte-eq10-clause-lines : goal.returns-then-byte-eq10-clause-lines
returns-then-byte-eq10-clause-lines c =
    cut_at c.args.bytes.now c.split_at.result.0.now c.split_at.result.1.now c.loop-i.i (omega arith) c.if-byte-eq10.true c.loop-i.invariant c.split_at.ensures.front c.split_at.ensures.back

pub returns-clause-lines : goal.returns-clause-lines
returns-clause-lines c =
    uncut c.args.bytes.now (eqb-false (length c.args.bytes.now) 0 (sym c.is_empty.ensures ∙ c.if-is_empty.false)) (λ k h. c.loop-i.invariant k (omega arith))
