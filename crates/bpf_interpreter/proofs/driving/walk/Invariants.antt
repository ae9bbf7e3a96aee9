use Rattle.std.proofs.Common.{◌≡◌}
use Rattle.bpf_helpers.specs.Calls.{calls_of}
use Rattle.bpf_semantics.specs.Step.{Runs}
use Rattle.bpf_interpreter.specs.Stepped.{state_of, loan_of}
use Rattle.bpf_interpreter.proofs.driving.walk.Given as goal

abbrev pub invariant-loop-taken : goal.invariant-loop-taken
invariant-loop-taken g l = record {
  runs : Runs (calls_of l.table.listed) l.code l.taken (state_of l.fn.state) (state_of l.state);
  input : (state_of l.state).memory.input ≡ (state_of l.fn.state).memory.input;
  loan : loan_of l.state ≡ loan_of l.fn.state;
}
