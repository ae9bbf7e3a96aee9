use Rattle.std.proofs.Common.{◌<◌, ◌^◌, sym, subst}
use Rattle.bpf_alu.specs.Value.{bits}
use Rattle.bpf_ranges.specs.declared.range.Range.{Range}
use Rattle.bpf_ranges.proofs.Ranges.{cut_by_fits}
use Rattle.bpf_ranges.proofs.arithmetic.result_range.Goals as goal

pub range_by_profile-requires-clause-left_fits : goal.range_by_profile-requires-clause-left_fits
range_by_profile-requires-clause-left_fits c =
    let P : Range → Type 0 = λ r. r.hi < 2 ^ bits c.args.width in
    subst P (sym c.cut_by_profile-a.ensures) (cut_by_fits c.args.profile c.args.width c.args.a c.requires.left.ordered)

pub range_by_profile-requires-clause-fits : goal.range_by_profile-requires-clause-fits
range_by_profile-requires-clause-fits c =
    let P : Range → Type 0 = λ r. r.hi < 2 ^ bits c.args.width in
    subst P (sym c.cut_by_profile-b.ensures) (cut_by_fits c.args.profile c.args.width c.args.b c.requires.right.ordered)
