use Rattle.std.proofs.Common.{inl, inr}
use Rattle.std.proofs.lemmas.Bool.{iff_false}
use Rattle.bpf_insn.proofs.Told.{bad_register}
use Rattle.bpf_insn.proofs.decode.form_of.Goals as goal
use Rattle.bpf_insn.proofs.decode.form_of.Goals.{then-slot-gt10-via-then-slot-gt10, then-slot-gt10-via-else-slot-gt10+then-slot-gt10-2}

pub returns-then-slot-gt10-clause-err : goal.returns-then-slot-gt10-clause-err
returns-then-slot-gt10-clause-err c =
    bad_register c.args.slot.now c.in-Some.form c.in-Some.ensures.found.0 c.in-Some.ensures.found.1 (iff_false c.is_left_out.ensures c.if-is_left_out.false) (iff_false c.is_misused.ensures c.if-is_misused.false)
    (elim c.then-slot-gt10.branch [ then-slot-gt10-via-then-slot-gt10 w ↦ inl w.if-slot-gt10.true | then-slot-gt10-via-else-slot-gt10+then-slot-gt10-2 w ↦ inr w.if-slot-gt10-2.true ])
