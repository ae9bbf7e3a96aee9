use Rattle.std.proofs.Common.{ap, sym, ◌∙◌, ◌++◌, ◌∷◌, []}
use Rattle.http_response.specs.Answer.{or_nothing}
use Rattle.http_response.specs.View.{etag_by}
use Rattle.http_response.proofs.Pieces.{tag_line}
use Rattle.http_response.proofs.field.push_etag.Goals as goal

pub returns : goal.returns
returns c =
    let out = c.args.out.now.items in
    let etag = etag_by c.args.read.validator c.args.read.context.now in
    c.in_ok-extend_from_slice-2.ensures.items
    ∙ (ap (λ l. l ++ (13 ∷ 10 ∷ [])) (c.in_ok-push_entity_tag.ensures ∙ ap (λ l. l ++ or_nothing etag) c.in_ok-extend_from_slice.ensures.items)
    ∙ tag_line out etag (sym (c.is_some.ensures c.args.read.context.now) ∙ search c))
