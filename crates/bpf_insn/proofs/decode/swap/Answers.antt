use Rattle.std.proofs.Common.{arith}
use Rattle.bpf_insn.proofs.Told.{bad_swap}
use Rattle.bpf_insn.proofs.decode.swap.Goals as goal

pub returns-in_default-clause-err : goal.returns-in_default-clause-err
returns-in_default-clause-err c = bad_swap c.args.kind c.args.slot c.requires (λ e. omega arith) (λ e. omega arith) (λ e. omega arith)
