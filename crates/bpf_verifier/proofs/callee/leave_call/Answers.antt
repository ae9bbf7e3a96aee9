use Rattle.std.proofs.Common.{arith}
use Rattle.bpf_verifier.specs.CallKinds.{callee_from}
use Rattle.bpf_verifier.specs.Cells.{row_written}
use Rattle.bpf_verifier.specs.Answered.{answer_kind}
use Rattle.bpf_verifier.proofs.RowSteps.{call_sets}
use Rattle.bpf_verifier.proofs.StackCells.{written_long}
use Rattle.bpf_verifier.proofs.callee.leave_call.Goals as goal

pub returns-clause-table : goal.returns-clause-table
returns-clause-table c =
    let callee = callee_from c.args.callee.now in
    let long = written_long c.args.profile callee c.args.row.now in
    rw (c.set_kind-6.ensures.table, c.set_kind-5.ensures.table, c.set_kind-4.ensures.table, c.set_kind-3.ensures.table, c.set_kind-2.ensures.table, c.set_kind.ensures.table, c.write_by_call.ensures.table, c.answer_kind.ensures.table)
    (call_sets (row_written c.args.profile callee c.args.row.now) (answer_kind c.args.profile callee) (omega (arith, long, c.requires.long)))
