use Rattle.std.proofs.Common.{arith}
use Rattle.bpf_alu.specs.declared.Width.TheVariants.{W32, W64}
use Rattle.bpf_insn.proofs.Forms.{none-map, jumps-only, stores-only}
use Rattle.bpf_insn.proofs.form.Form.of.Goals as goal

pub returns-in-5-2-clause-none : goal.returns-in-5-2-clause-none
returns-in-5-2-clause-none c =
    none-map _ (jumps-only c.args.opcode W64 c.in-5-2.is (λ e. omega arith) (λ e. omega arith) (λ e. omega arith) (λ e. omega arith)) c.conditional.ensures.none

pub returns-in-6-2-clause-none : goal.returns-in-6-2-clause-none
returns-in-6-2-clause-none c =
    none-map _ (jumps-only c.args.opcode W32 c.in-6-2.is (λ e. omega arith) (λ e. omega arith) (λ e. omega arith) (λ e. omega arith)) c.conditional-in-6-2.ensures.none

pub returns-in-2-clause-none : goal.returns-in-2-clause-none
returns-in-2-clause-none c = none-map _ (stores-only c.args.opcode (omega arith) (omega arith)) c.store.ensures.none
