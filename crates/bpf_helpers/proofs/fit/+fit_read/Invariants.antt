use Rattle.std.proofs.Common.{length}
use Rattle.bpf_helpers.proofs.fit.+fit_read.Given as goal

abbrev pub decreases-fit_read : goal.decreases-fit_read
decreases-fit_read l = length l.rules.now
