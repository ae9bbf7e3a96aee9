use Rattle.std.proofs.Common.{length}
use Rattle.bpf_helpers.proofs.fit.+fit_numbers.Given as goal

abbrev pub decreases-fit_numbers : goal.decreases-fit_numbers
decreases-fit_numbers l = length l.rules.now
