use Rattle.std.proofs.Common.{length}
use Rattle.bpf_interpreter.proofs.state.State.+lacks.Given as goal

abbrev pub decreases-lacks : goal.decreases-lacks
decreases-lacks l = length l.rules.now
