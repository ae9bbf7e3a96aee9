use Rattle.std.proofs.Common.{◌≡◌, ◌∙◌, ◌++◌, ◌∷◌, [], ◌+◌, ap, sym, take}
use Rattle.std.specs.List.{flat_map}
use Rattle.std.proofs.lemmas.List.{flat_map_more, take_more}
use Rattle.key_state.specs.declared.content.Sibling.{Sibling}
use Rattle.http_response.specs.Parts as spec
use Rattle.http_response.proofs.parts.push_parts_body.Goals as goal

pub loop-sibling-preserved : goal.loop-sibling-preserved
loop-sibling-preserved c =
    let siblings = c.args.siblings.now in
    let x = c.sibling-item.result in
    let i = c.loop-sibling.sibling-index in
    let out = c.args.out.now.items in
    let part = λ (s : Sibling). spec.part c.args.boundary s in
    let more : take (i + 1) siblings ≡ take i siblings ++ x ∷ [] =
    take_more siblings i x c.loop-sibling-test.true ∙ ap (λ y. take i siblings ++ y ∷ []) (sym c.sibling-item.is) in
    c.in_ok-push_part.ensures
    ∙ (ap (λ l. l ++ part x) c.loop-sibling.invariant
    ∙ (flat_map_more part out (take i siblings) x ∙ ap (λ l. out ++ flat_map part l) (sym more)))
