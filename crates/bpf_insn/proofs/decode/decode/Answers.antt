use Rattle.bpf_insn.proofs.Unbroken.{only_code}
use Rattle.bpf_insn.proofs.decode.decode.Goals as goal

pub returns-clause-only : goal.returns-clause-only
returns-clause-only c = λ code s. only_code c.args.bytes.now c.read_code.result c.read_code.ensures.found c.read_code.ensures.refused code s
