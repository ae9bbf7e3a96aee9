use Rattle.std.proofs.Common.{ap, ◌∙◌, ◌++◌, ◌∷◌, []}
use Rattle.std.specs.Prelude.{codes}
use Rattle.http_response.specs.Parts.{tag_of}
use Rattle.http_response.proofs.Pieces.{tag_grouped}
use Rattle.http_response.proofs.parts.push_tag_line.Goals as goal

pub returns : goal.returns
returns c =
    let t = tag_of c.args.dot in
    c.in_ok-extend_from_slice-2.ensures.items
    ∙ (ap (λ l. l ++ (13 ∷ 10 ∷ 13 ∷ 10 ∷ [])) (c.in_ok-push_tag.ensures ∙ ap (λ l. l ++ t) c.in_ok-extend_from_slice.ensures.items)
    ∙ tag_grouped c.args.out.now.items (codes "X-Riak-Tag: ") t (13 ∷ 10 ∷ []))
