use Rattle.std.proofs.Common.{sym, ◌∙◌, ap}
use Rattle.key_state.specs.Parts.{Summarized}
use Rattle.repair.proofs.laws.alike_are_equal.Goals as goal

pub returns : goal.returns
returns c = λ mine theirs held told own is_own is_held of_held shows_own shows_held unique alike.
    let same = sym alike ∙ of_held in
    c.states_are_told_by_dots_and_clocks.ensures mine theirs own.state held is_own is_held shows_own shows_held unique (ap (λ (s : Summarized). s.dots) same) (ap (λ (s : Summarized). s.clock) same)
