use Rattle.std.proofs.Common.{sym}
use Rattle.bpf_alu.proofs.Bits.{or-kept, xor-kept}
use Rattle.bpf_alu.proofs.apply.Goals as goal

pub returns-in-Or : goal.returns-in-Or
returns-in-Or c = rw c.in-Or.is (sym (or-kept c.args.width c.args.a c.args.b c.requires.a c.requires.b))

pub returns-in-Xor : goal.returns-in-Xor
returns-in-Xor c = rw c.in-Xor.is (sym (xor-kept c.args.width c.args.a c.args.b c.requires.a c.requires.b))
