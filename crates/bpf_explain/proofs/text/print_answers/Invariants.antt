use Rattle.std.proofs.Common.{◌≡◌, ◌++◌, take, flat_map, string_bytes}
use Rattle.bpf_explain.specs.Texts.{answer_text}
use Rattle.bpf_explain.proofs.text.print_answers.Given as goal

-- the answers so far are told
abbrev pub invariant-loop-answer : goal.invariant-loop-answer
invariant-loop-answer l = string_bytes l.text ≡ string_bytes l.initial.text ++ flat_map answer_text (take l.answer-index l.answers)
