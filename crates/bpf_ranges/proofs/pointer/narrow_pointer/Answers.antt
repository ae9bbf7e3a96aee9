use Rattle.std.proofs.Common.{arith}
use Rattle.std.proofs.lemmas.Int.{ints}
use Rattle.bpf_ranges.proofs.Pointers.{address_is}
use Rattle.bpf_ranges.proofs.pointer.narrow_pointer.Goals as goal

pub returns-then-low-high-clause-kind : goal.returns-then-low-high-clause-kind
returns-then-low-high-clause-kind c =
    let first = address_is c.args.region c.args.lo c.requires.0 in
    let last = address_is c.args.region c.args.hi (omega (arith, ints, c.requires)) in
    (omega (arith, ints), omega (arith, ints), omega (arith, ints))
