use Rattle.std.proofs.Common.{sym}
use Rattle.bpf_verifier.proofs.Touches.{int_le_is, numeric_past}
use Rattle.bpf_verifier.proofs.cells.+are_numeric.Goals as goal

pub returns-in_default : goal.returns-in_default
returns-in_default t c = sym (numeric_past c.args.span c.args.place c.args.cells.now (int_le_is _ _ (sym c.if-is_past.ensures)))
