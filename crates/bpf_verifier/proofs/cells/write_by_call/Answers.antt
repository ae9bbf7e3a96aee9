use Rattle.std.proofs.Common.{ap, ◌∙◌}
use Rattle.bpf_verifier.specs.CallKinds.{callee_from}
use Rattle.bpf_verifier.specs.Cells.{row_touched}
use Rattle.bpf_verifier.proofs.Zeros.{by_call}
use Rattle.bpf_verifier.proofs.cells.write_by_call.Goals as goal

pub returns-clause-table : goal.returns-clause-table
returns-clause-table c =
    c.touch.ensures.table ∙ ap (λ o. row_touched c.args.profile o c.args.row.now) c.span_by_call-span.ensures ∙ by_call c.args.profile (callee_from c.args.callee.now) c.args.row.now
