use Rattle.std.proofs.Common.{length}
use Rattle.bpf_verifier.proofs.cells.+reads_numbers.Given as goal

abbrev pub decreases-reads_numbers : goal.decreases-reads_numbers
decreases-reads_numbers l = length l.rules.now
