use Rattle.std.proofs.Common.{length}
use Rattle.bpf_verifier.proofs.sums.+tell_each.Given as goal

abbrev pub decreases-tell_each : goal.decreases-tell_each
decreases-tell_each l = length l.registers.now
