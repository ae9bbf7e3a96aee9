use Rattle.std.proofs.Common.{Some, sym, ap, ◌∙◌, subst, arith}
use Rattle.bpf_verifier.specs.Cells.{row_touched}
use Rattle.bpf_verifier.specs.Table.{AreKinds}
use Rattle.bpf_verifier.proofs.StackCells.{row_touched_kinds}
use Rattle.bpf_verifier.proofs.Touches.{touch_skip}
use Rattle.bpf_verifier.proofs.cells.touch.Goals as goal

pub returns-in-Some-clause-table : goal.returns-in-Some-clause-table
returns-in-Some-clause-table c =
    c.touch_from.ensures ∙ sym (touch_skip c.args.profile c.in-Some.span c.first_place-at.result _ c.args.row.now c.first_place-at.ensures.registers (omega arith) c.first_place-at.ensures.before)
    ∙ ap (λ o. row_touched c.args.profile o c.args.row.now) (sym c.in-Some.is)

pub returns-in-Some-clause-kinds : goal.returns-in-Some-clause-kinds
returns-in-Some-clause-kinds c = λ h.
    subst AreKinds
    (sym (c.touch_from.ensures ∙ sym (touch_skip c.args.profile c.in-Some.span c.first_place-at.result _ c.args.row.now c.first_place-at.ensures.registers (omega arith) c.first_place-at.ensures.before)))
    (row_touched_kinds c.args.profile (Some c.in-Some.span) c.args.row.now h)
