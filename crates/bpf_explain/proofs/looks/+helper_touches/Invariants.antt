use Rattle.std.proofs.Common.{length}
use Rattle.bpf_explain.proofs.looks.+helper_touches.Given as goal

abbrev pub decreases-helper_touches : goal.decreases-helper_touches
decreases-helper_touches l = length l.rules.now
