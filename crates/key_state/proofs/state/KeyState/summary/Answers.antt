use Rattle.std.proofs.Common.{List, map, sym, ap, subst, ◌∙◌}
use Rattle.std.proofs.lemmas.List.{take_all}
use Rattle.key_state.specs.declared.content.Sibling.{Sibling}
use Rattle.key_state.specs.Parts.{AreDotsInOrder}
use Rattle.key_state.proofs.Searches.{dots_in_order}
use Rattle.key_state.proofs.state.KeyState.summary.Goals as goal

pub invariant_of-result : goal.invariant_of-result
invariant_of-result c =
    let all = take_all c.loop-sibling.sibling-index c.siblings-sibling-items.result.now c.loop-sibling-test.false ∙ c.siblings-sibling-items.ensures.all in
    subst AreDotsInOrder (sym (c.loop-sibling.invariant ∙ ap (λ (l : List Sibling). map (λ (s : Sibling). s.dot) l) all)) (dots_in_order c.args.self.now.siblings c.siblings-sibling-items.ensures.state.in_order)
