use Rattle.std.proofs.Common.{◌∷◌, ap, rules}
use Rattle.std.specs.Prelude.{None, Some}
use Rattle.bpf_interpreter.specs.Stepped.{state_of}
use Rattle.bpf_interpreter.proofs.Fitting.{last_five}
use Rattle.bpf_interpreter.proofs.state.State.put_answer.Goals as goal

pub returns-clause-answered : goal.returns-clause-answered
returns-clause-answered c =
    let s = state_of c.args.self.now in
    ap (λ rs. record s { registers = Some c.args.answer ∷ None ∷ None ∷ None ∷ None ∷ None ∷ rs }) (last_five c.args.self.now.registers (search rules))
