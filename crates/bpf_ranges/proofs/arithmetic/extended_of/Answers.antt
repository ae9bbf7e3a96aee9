use Rattle.std.proofs.Common.{◌≤◌, ◌^◌, sym, subst, arith}
use Rattle.std.proofs.Math.Pow.{pow_mono}
use Rattle.bpf_alu.specs.Value.{bits}
use Rattle.bpf_ranges.specs.declared.range.Range.{Range}
use Rattle.bpf_ranges.proofs.Ranges.{bits_wide, bits_least, low_ordered}
use Rattle.bpf_ranges.proofs.arithmetic.extended_of.Goals as goal

pub overflow_add-result : goal.overflow_add-result
overflow_add-result c =
    let P : Range → Type 0 = λ r. r.lo ≤ r.hi in
    let ordered = subst P (sym c.low-low.ensures.table) (low_ordered c.args.count c.args.b c.requires.operand.ordered) in
    let wide : 2 ^ bits c.args.width ≤ 2 ^ 64 = pow_mono (bits_wide c.args.width) in
    let least = bits_least c.args.width in
    let short : 2 ^ c.args.count ≤ 2 ^ bits c.args.width = pow_mono (omega (arith, least, c.requires.short)) in
    omega (arith, ordered, c.low-low.ensures.fits, c.greatest.ensures, c.low_ones.ensures, wide, short)
