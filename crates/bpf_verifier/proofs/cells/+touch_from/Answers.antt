use Rattle.std.proofs.Common.{sym}
use Rattle.bpf_verifier.proofs.Touches.{int_le_is, touch_past}
use Rattle.bpf_verifier.proofs.cells.+touch_from.Goals as goal

pub returns-then-is_past : goal.returns-then-is_past
returns-then-is_past t c = touch_past c.args.profile c.args.span c.args.place c.args.at c.args.row.now (int_le_is _ _ (sym c.if-is_past.ensures))
