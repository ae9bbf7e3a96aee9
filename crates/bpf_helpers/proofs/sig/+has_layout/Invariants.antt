use Rattle.std.proofs.Common.{length}
use Rattle.bpf_helpers.proofs.sig.+has_layout.Given as goal

abbrev pub decreases-has_layout : goal.decreases-has_layout
decreases-has_layout l = length l.args.now
