use Rattle.std.proofs.Common.{rules}
use Rattle.bpf_alu.proofs.Bits.{remained_word}
use Rattle.bpf_alu.proofs.remainder_signed.Goals as goal

pub returns : goal.returns
returns c =
    remained_word c.args.width c.args.a c.args.b c.to_signed-dividend.result c.to_signed.result c.wrapping_rem.result _ c.requires.a c.if-b-eq0.false (search rules) (search rules) (search rules) c.to_signed-dividend.ensures c.to_signed.ensures c.wrapping_rem.ensures c.cast_unsigned-2.ensures
