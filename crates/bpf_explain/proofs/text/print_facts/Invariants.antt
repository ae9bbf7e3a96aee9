use Rattle.std.proofs.Common.{◌≡◌, ◌++◌, take, flat_map, string_bytes}
use Rattle.bpf_explain.specs.Texts.{fact_text}
use Rattle.bpf_explain.proofs.text.print_facts.Given as goal

-- the facts so far are told
abbrev pub invariant-loop-fact : goal.invariant-loop-fact
invariant-loop-fact l = string_bytes l.text ≡ string_bytes l.initial.text ++ flat_map fact_text (take l.fact-index l.facts)
