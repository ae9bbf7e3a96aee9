use Rattle.std.proofs.Common.{◌≡◌, ◌++◌, take, drop}
use Rattle.std.specs.Prelude.{map}
use Rattle.bpf_verifier.specs.Sums.{without}
use Rattle.bpf_verifier.proofs.sums.forget_each.Given as goal

-- those so far are forgotten, where they have the register, and the others stay
abbrev pub invariant-loop-sum : goal.invariant-loop-sum
invariant-loop-sum l = l.sums ≡ map (without l.register) (take l.sum-index l.initial.sums) ++ drop l.sum-index l.initial.sums
