use Rattle.std.proofs.Common.{length}
use Rattle.bpf_helpers.proofs.fit.+fit_reads.Given as goal

abbrev pub decreases-fit_reads : goal.decreases-fit_reads
decreases-fit_reads l = length l.rules.now
