use Rattle.std.proofs.Common.{length}
use Rattle.bpf_verifier.proofs.cells.+are_numeric.Given as goal

abbrev pub decreases-are_numeric : goal.decreases-are_numeric
decreases-are_numeric l = length l.cells.now
