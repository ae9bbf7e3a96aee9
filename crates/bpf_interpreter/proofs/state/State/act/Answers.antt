use Rattle.std.proofs.Common.{rules}
use Rattle.bpf_semantics.specs.State.{no_calls}
use Rattle.bpf_helpers.specs.Calls.{calls_of}
use Rattle.bpf_interpreter.specs.Stepped.{state_of}
use Rattle.bpf_interpreter.proofs.Lifted.{applied_same}
use Rattle.bpf_interpreter.proofs.state.State.act.Goals as goal

pub returns-in_default-clause-applied : goal.returns-in_default-clause-applied
returns-in_default-clause-applied g c =
    applied_same no_calls (calls_of c.args.table.now.listed) c.args.insn (state_of c.args.self.now) (state_of c.apply.new.self) c.apply.result (search rules) c.apply.ensures.applied
