use Rattle.std.proofs.Common.{sym, ◌∙◌, subst}
use Rattle.bpf_insn.specs.Refusal.{Spells, IsRefused}
use Rattle.bpf_image.specs.Image.{IsFirstFault}
use Rattle.bpf_image.proofs.Faults.{code_refused, memory_told}
use Rattle.bpf_image.proofs.read.read_image.Goals as goal

pub returns-in-Err-clause-only : goal.returns-in-Err-clause-only
returns-in-Err-clause-only c = λ code head spelled. c.code_fault.ensures ∙ memory_told c.in-Err.fault (c.in-Err.ensures.only code (subst (Spells code) (sym c.after_head.ensures) spelled))

pub returns-in-Err-clause-refused : goal.returns-in-Err-clause-refused
returns-in-Err-clause-refused c =
    subst (IsFirstFault c.args.bytes.now) (sym c.code_fault.ensures) (code_refused c.args.bytes.now c.in-Err.fault c.in_ok-head.ensures.found.0 (subst (λ rest. IsRefused rest c.in-Err.fault.slot c.in-Err.fault.why) c.after_head.ensures c.in-Err.ensures.refused))
