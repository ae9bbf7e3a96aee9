use Rattle.std.proofs.Common.{◌≡◌, ◌++◌, take, flat_map, string_bytes}
use Rattle.bpf_explain.specs.Texts.{together_text}
use Rattle.bpf_explain.proofs.text.print_all_together.Given as goal

-- what was told so far
abbrev pub invariant-loop-two : goal.invariant-loop-two
invariant-loop-two l = string_bytes l.text ≡ string_bytes l.initial.text ++ flat_map together_text (take l.two-index l.together)
