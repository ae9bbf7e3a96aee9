use Rattle.std.proofs.Common.{take, is_some, not, refl, arith}
use Rattle.std.proofs.lemmas.List.Filters.{length-filter_both}
use Rattle.std.proofs.lemmas.List.{length-take}
use Rattle.key_state.specs.declared.part.PartSibling.{PartSibling}
use Rattle.key_state.proofs.part.Part.contents.Goals as goal

pub overflow_add-count : goal.overflow_add-count
overflow_add-count c =
    let xs = c.deref-sibling-items.result.now in
    let few = length-filter_both (λ (s : PartSibling). is_some s.content) (λ (s : PartSibling). not (is_some s.content)) (λ s. refl) (take c.loop-sibling.sibling-index xs) in
    omega (arith, c.loop-sibling.invariant, few, length-take c.loop-sibling.sibling-index xs, c.loop-sibling-test.true, c.loop-sibling.auto.sibling-index-end, c.deref-sibling-items.ensures.len)
