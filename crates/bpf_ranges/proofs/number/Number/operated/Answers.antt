use Rattle.std.proofs.Common.{◌≤◌, sym, subst}
use Rattle.bpf_ranges.specs.declared.range.Range.{Range}
use Rattle.bpf_ranges.proofs.Ranges.{range_ordered}
use Rattle.bpf_ranges.proofs.number.Number.operated.Goals as goal

pub settled-requires : goal.settled-requires
settled-requires c =
    let P : Range → Type 0 = λ r. r.lo ≤ r.hi in
    λ _. subst P (sym c.result_range-range.ensures) (range_ordered c.args.profile c.args.op c.args.width c.args.a.range c.args.b.range c.requires.left.range.ordered c.requires.right.range.ordered)
