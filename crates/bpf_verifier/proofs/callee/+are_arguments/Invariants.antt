use Rattle.std.proofs.Common.{length}
use Rattle.bpf_verifier.proofs.callee.+are_arguments.Given as goal

abbrev pub decreases-are_arguments : goal.decreases-are_arguments
decreases-are_arguments l = length l.rules.now
