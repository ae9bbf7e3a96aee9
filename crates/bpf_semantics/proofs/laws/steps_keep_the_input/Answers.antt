use Rattle.bpf_semantics.specs.State.{no_calls}
use Rattle.bpf_semantics.proofs.Kept.{no_calls_keep, step_input, runs_input}
use Rattle.bpf_semantics.proofs.laws.steps_keep_the_input.Goals as goal

pub returns-clause-step : goal.returns-clause-step
returns-clause-step c = step_input no_calls no_calls_keep

pub returns-clause-run : goal.returns-clause-run
returns-clause-run c = runs_input no_calls no_calls_keep
