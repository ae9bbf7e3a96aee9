use Rattle.std.proofs.Common.{rules}
use Rattle.bpf_alu.proofs.Bits.{divided_word}
use Rattle.bpf_alu.proofs.divide_signed.Goals as goal

pub returns : goal.returns
returns c =
    divided_word c.args.width c.args.a c.args.b c.to_signed.result c.to_signed-2.result c.wrapping_div-quotient.result _ c.requires.a c.if-b-eq0.false (search rules) (search rules) (search rules) c.to_signed.ensures c.to_signed-2.ensures c.wrapping_div-quotient.ensures c.cast_unsigned.ensures
