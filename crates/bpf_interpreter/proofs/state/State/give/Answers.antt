use Rattle.std.proofs.Common.{rules}
use Rattle.bpf_interpreter.specs.Stepped.{state_of}
use Rattle.bpf_helpers.specs.Answers.{Given}
use Rattle.bpf_helpers.specs.Calls.{Gives}
use Rattle.bpf_interpreter.proofs.Fitting.{none_first, none_second, all_given}
use Rattle.bpf_interpreter.proofs.state.State.give.Goals as goal

pub returns-in_err-first-clause-err : goal.returns-in_err-first-clause-err
returns-in_err-first-clause-err c =
    let s = state_of c.args.self.now in
    let none : (g : Given) → ¬ Gives s c.args.rules.now g = none_first s c.args.rules.now c.first_place.result c.arguments-values.result c.arguments-values.ensures c.first_place.ensures c.in_err-first.ensures.err.1 in
    search rules

pub returns-in_err-second-clause-err : goal.returns-in_err-second-clause-err
returns-in_err-second-clause-err c =
    let s = state_of c.args.self.now in
    let none : (g : Given) → ¬ Gives s c.args.rules.now g = none_second s c.args.rules.now c.second_place.result c.arguments-values.result c.arguments-values.ensures c.second_place.ensures c.in_err-second.ensures.err.1 in
    search rules

pub returns-clause-ok : goal.returns-clause-ok
returns-clause-ok c =
    all_given (state_of c.args.self.now) c.args.rules.now c.arguments-values.result c.numbers.result c.in_ok-first.first.now c.in_ok-second.second.now c.first_place.result c.second_place.result c.arguments-values.ensures c.numbers.ensures c.first_place.ensures c.second_place.ensures c.in_ok-first.ensures.ok c.in_ok-second.ensures.ok
