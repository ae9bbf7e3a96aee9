use Rattle.std.proofs.Common.{ap, ◌∙◌, ◌-◌, ◌^◌}
use Rattle.std.specs.Prelude.{bit_and}
use Rattle.std.proofs.lemmas.Nat.{and_mask}
use Rattle.bpf_ranges.specs.KnownBits.{known_as}
use Rattle.bpf_ranges.proofs.bits.low_bits_known.Goals as goal

pub returns : goal.returns
returns c =
    ap (λ m. known_as (m - bit_and c.args.n m) (bit_and c.args.n m)) c.low_ones-mask.ensures
    ∙ ap (λ r. known_as (2 ^ c.args.count - 1 - r) r) (and_mask c.args.n c.args.count)
