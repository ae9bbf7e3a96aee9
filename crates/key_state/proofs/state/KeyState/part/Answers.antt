use Rattle.std.proofs.Common.{map, ap, ◌∙◌}
use Rattle.std.proofs.lemmas.List.{take_all}
use Rattle.key_state.specs.Parts.{part_sibling}
use Rattle.key_state.proofs.Parts.{part_made}
use Rattle.key_state.proofs.state.KeyState.part.Goals as goal

pub invariant_of-result : goal.invariant_of-result
invariant_of-result c =
    let all = take_all c.loop-sibling.sibling-index c.siblings-sibling-items.result.now c.loop-sibling-test.false ∙ c.siblings-sibling-items.ensures.all in
    part_made c.args.self.now c.args.summary.now c.loop-sibling.siblings.items c.in_ok-copy-2.field-0 c.siblings-sibling-items.ensures.state (c.loop-sibling.invariant ∙ ap (map (part_sibling c.args.summary.now)) all) (c.in_ok-copy-2.ensures.same ∙ c.clock.ensures)
