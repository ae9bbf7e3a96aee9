use Rattle.bpf_semantics.proofs.Kept.{row_input}
use Rattle.bpf_helpers.specs.Calls.{calls_of}
use Rattle.bpf_interpreter.specs.Stepped.{state_of}
use Rattle.bpf_interpreter.proofs.Keeping.{calls_keep}
use Rattle.bpf_interpreter.proofs.stepping.step.Goals as goal

pub returns-clause-input : goal.returns-clause-input
returns-clause-input g c =
    let does = c.in_ok-act.ensures.applied in
    let sigs = c.args.table.now.listed in
    row_input (calls_of sigs) (calls_keep sigs) c.in-Some.insn (state_of c.args.state.now) (state_of c.act.new.self) does.sound does.row
