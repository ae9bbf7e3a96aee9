use Rattle.std.proofs.Common.{ap, ◌∙◌, ◌++◌, ◌∷◌, []}
use Rattle.http_response.specs.Parts.{tag_of}
use Rattle.http_response.proofs.Pieces.{tag_quoted}
use Rattle.http_response.proofs.field.push_write_tag.Goals as goal

pub returns : goal.returns
returns c =
    c.in_ok-extend_from_slice-2.ensures.items
    ∙ (ap (λ l. l ++ (34 ∷ [])) (c.in_ok-push_tag.ensures ∙ ap (λ l. l ++ tag_of c.args.dot) c.in_ok-extend_from_slice.ensures.items)
    ∙ tag_quoted c.args.out.now.items (tag_of c.args.dot))
