use Rattle.std.proofs.Common.{length}
use Rattle.bpf_explain.proofs.looks.+add_facts.Given as goal

abbrev pub decreases-add_facts : goal.decreases-add_facts
decreases-add_facts l = length l.kinds.now
