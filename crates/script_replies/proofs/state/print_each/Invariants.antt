use Rattle.std.proofs.Common.{◌≡◌, ◌++◌, take, flat_map, string_bytes}
use Rattle.script_replies.specs.Texts.{sibling_text}
use Rattle.script_replies.proofs.state.print_each.Given as goal

-- the siblings so far are told
abbrev pub invariant-loop-sibling : goal.invariant-loop-sibling
invariant-loop-sibling l = string_bytes l.text ≡ string_bytes l.initial.text ++ flat_map sibling_text (take l.sibling-index l.siblings)
