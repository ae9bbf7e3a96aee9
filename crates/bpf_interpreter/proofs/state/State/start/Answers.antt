use Rattle.bpf_interpreter.proofs.Starting.{state-same}
use Rattle.bpf_interpreter.proofs.state.State.start.Goals as goal

pub returns-clause-state : goal.returns-clause-state
returns-clause-state c = state-same _ _ _ _ _ _ _ _ _ _ _ _ c.requires.stack c.requires.output c.base.ensures c.from.ensures c.base-2.ensures
