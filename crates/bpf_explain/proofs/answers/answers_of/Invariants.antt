use Rattle.std.proofs.Common.{◌≡◌}
use Rattle.bpf_verifier.specs.Candidates.{program_in}
use Rattle.bpf_explain.specs.Answered.{answers_before}
use Rattle.bpf_explain.proofs.answers.answers_of.Given as goal

-- the answers of the slots so far
abbrev pub invariant-loop-slot : goal.invariant-loop-slot
invariant-loop-slot l = l.answers.items ≡ answers_before (program_in l.program) l.slot
