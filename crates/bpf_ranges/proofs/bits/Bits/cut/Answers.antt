use Rattle.std.proofs.Common.{sym, ap, ◌∙◌}
use Rattle.std.proofs.Math.Nat.{mod-eq_of_lt}
use Rattle.bpf_ranges.specs.KnownBits.{known_as}
use Rattle.bpf_ranges.proofs.KnownBits.{or_nothing}
use Rattle.bpf_ranges.proofs.bits.Bits.cut.Goals as goal

pub returns-in-W64 : goal.returns-in-W64
returns-in-W64 c =
    rw c.in-W64.is (ap (λ z. known_as z c.args.self.ones) (sym (or_nothing c.args.self.zeros)) ∙ ap (known_as _) (sym (mod-eq_of_lt c.requires.ones)))
