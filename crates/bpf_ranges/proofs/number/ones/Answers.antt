use Rattle.std.proofs.Common.{◌≡◌, sym, ap, ◌∙◌, ◌^◌, ◌-◌}
use Rattle.std.specs.Int.Count.{leading_of_zero}
use Rattle.std.proofs.lemmas.Nat.{leading_le}
use Rattle.std.proofs.lemmas.Nat.Bits.{ones_shr}
use Rattle.bpf_ranges.specs.Numbers.{ones_above}
use Rattle.bpf_ranges.proofs.number.ones.Goals as goal

pub returns-in-0 : goal.returns-in-0
returns-in-0 c =
    let none : 0 ≡ ones_above 0 = ap (λ n. 2 ^ (64 - n) - 1) (sym (leading_of_zero 64)) in
    none ∙ ap ones_above (sym c.in-0.is)

pub returns-in_default : goal.returns-in_default
returns-in_default c = ones_shr 64 _ (leading_le 64 c.args.n)
