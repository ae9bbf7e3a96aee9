use Rattle.std.proofs.Common.{◌≡◌, ℕ, ◌≤◌, ◌-◌, ◌++◌, ◌∙◌, ap, arith, length, length-append, replicate, rules, sym}
use Rattle.std.specs.Option.{option_copied}
use Rattle.std.proofs.lemmas.List.{length-replicate}
use Rattle.hook_abi.specs.Input.{contents_shown, layout, used_by, window_of}
use Rattle.hook_abi.proofs.InputLemmas.{layout_long}
use Rattle.hook_abi.proofs.Writing.{and_then, as_bytes, through, whole}
use Rattle.hook_abi.proofs.input.fill_input.Goals as goal

pub returns-clause-written : goal.returns-clause-written
returns-clause-written c =
    let cs = contents_shown (option_copied c.args.new) c.args.siblings.now in
    let kind = c.args.kind in
    let len = length c.args.window.now in
    let laid = layout_long kind cs in
    let same = ap length c.new-writer.ensures.window in
    let used = c.write_used.ensures.end in
    let kept = c.write_used.ensures.long in
    let fits : used_by cs ≤ len = omega (arith, c.in-Some.ensures) in
    let left : length c.write_used.new.writer.window.now - c.write_used.new.writer.at ≡ len - used_by cs = omega (arith, c.new-writer.ensures.start) in
    let count : length (window_of len kind cs) ≡ length c.new-writer.result.window.now = omega (arith, length-append (layout kind cs) (replicate (len - used_by cs) 0), length-replicate {A = ℕ} (len - used_by cs) 0) in
    let lent = sym (c.zeros.ensures.lent ∙ c.write_used.ensures.lent ∙ c.new-writer.ensures.lent) in
    through c.zeros.new.self.window.now
    (first_of (search (rules, lent), grind (arith, lent)))
    (whole (as_bytes (ap (λ n. layout kind cs ++ replicate n 0) left) (and_then c.write_used.ensures c.zeros.ensures)) c.new-writer.ensures.start count)
