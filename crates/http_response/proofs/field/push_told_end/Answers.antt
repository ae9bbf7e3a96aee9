use Rattle.std.proofs.Common.{ap, ◌∙◌, ◌++◌, Some, []}
use Rattle.std.specs.Prelude.{codes}
use Rattle.http_response.specs.Answer.{deletion}
use Rattle.http_response.specs.Parts.{line, field_line}
use Rattle.http_response.specs.View.{etag_by}
use Rattle.http_response.proofs.Pieces.{end_grouped}
use Rattle.http_response.proofs.field.push_told_end.Goals as goal

pub returns : goal.returns
returns c =
    let g = field_line (codes "ETag") (etag_by c.args.read.validator c.args.read.context.now) in
    let w = field_line (codes "Vary") (Some (codes "Accept")) in
    let d = field_line (codes "X-Riak-Deleted") (deletion c.args.read.deleted) in
    c.in_ok-extend_from_slice-2.ensures.items
    ∙ (ap (λ l. l ++ line []) (c.in_ok-push_deletion.ensures
    ∙ ap (λ l. l ++ d) (c.in_ok-extend_from_slice.ensures.items ∙ ap (λ l. l ++ w) c.in_ok-push_etag.ensures))
    ∙ end_grouped c.args.out.now.items g w d (line []))
