use Rattle.std.proofs.Common.{ap, ◌∙◌}
use Rattle.bpf_semantics.specs.State.{advanced}
use Rattle.bpf_interpreter.specs.Stepped.{state_of}
use Rattle.bpf_interpreter.proofs.Fitting.{call_answered}
use Rattle.bpf_interpreter.proofs.state.State.call.Goals as goal

pub returns-clause-applied : goal.returns-clause-applied
returns-clause-applied g c =
    call_answered c.args.table.now.listed c.args.number (state_of c.args.self.now) (state_of c.answer.new.self) c.in_ok-answer.answer (state_of c.advance.new.self) c.in_ok-answer.ensures.called (c.advance.ensures.gone ∙ ap advanced c.put_answer.ensures.answered)
