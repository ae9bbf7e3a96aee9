use Rattle.std.proofs.Common.{length}
use Rattle.bpf_verifier.proofs.callee.+is_used_unset.Given as goal

abbrev pub decreases-is_used_unset : goal.decreases-is_used_unset
decreases-is_used_unset l = length l.rules.now
