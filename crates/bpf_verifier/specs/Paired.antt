-- What pairs tell of their registers where a condition was tested (this store's second profile).
use Rattle.std.specs.Prelude.{◌-◌, ◌^◌, Option, None, Some, min}
use Rattle.bpf_insn.specs.declared.Insn.{Insn}
use Rattle.bpf_insn.specs.declared.Insn.TheVariants as insn
use Rattle.bpf_semantics.specs.declared.profile.Profile.{Profile}
use Rattle.bpf_semantics.specs.declared.profile.Profile.TheVariants.{Second}
use Rattle.bpf_copies.specs.Names.{Names}
use Rattle.bpf_verifier.specs.Registers.{Row, kind_at}
use Rattle.bpf_verifier.specs.Sums.{least, register_at_most}
use Rattle.bpf_verifier.specs.Naming.{named}
use Rattle.bpf_verifier.specs.declared.pair.Pair.{Pair}
use Rattle.bpf_verifier.specs.declared.pair.Pairs.{Pairs}

-- each of a pair's two numbers is at most what both are together less the least other number
abbrev pub told_by_pair : Pair → Row → Row
told_by_pair pair row =
    let left = min (pair.most - least (kind_at row pair.right)) (2 ^ 64 - 1) in
    let right = min (pair.most - least (kind_at row pair.left)) (2 ^ 64 - 1) in
    register_at_most right pair.right (register_at_most left pair.left row)

abbrev pub told_pair : Option Pair → Row → Row
told_pair None row = row
told_pair (Some pair) row = told_by_pair pair row

-- one after the other
abbrev pub told_pairs : Pairs → Row → Row
told_pairs pairs row = told_pair pairs.fourth (told_pair pairs.third (told_pair pairs.second (told_pair pairs.first row)))

-- by the second profile, be the jump taken or not
abbrev pub paired : Insn → Profile → Pairs → Row → Row
paired (insn.JumpIf c w left right offset) Second pairs row = told_pairs pairs row
paired x profile pairs row = row

-- what names tell, and then the pairs that are known before the condition
abbrev pub narrowed : Insn → Profile → Names → Pairs → Row → Row
narrowed x profile names pairs row = paired x profile pairs (named x profile names row)
