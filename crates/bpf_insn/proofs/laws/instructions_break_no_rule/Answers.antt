use Rattle.bpf_insn.proofs.Unbroken.{whole_unbroken}
use Rattle.bpf_insn.proofs.laws.instructions_break_no_rule.Goals as goal

pub returns : goal.returns
returns c = whole_unbroken
