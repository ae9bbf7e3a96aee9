use Rattle.std.proofs.Common.{ap, ◌∙◌, ◌++◌, []}
use Rattle.std.specs.Prelude.{codes}
use Rattle.http_response.specs.Parts.{line, delimiter, kind_line, tag_of, bytes_of}
use Rattle.http_response.proofs.Pieces.{both_pieces, part_grouped}
use Rattle.http_response.proofs.parts.push_part.Goals as goal

pub returns : goal.returns
returns c =
    let s = c.args.sibling.now in
    let d = delimiter c.args.boundary in
    let k = kind_line s.content in
    let t = line (codes "X-Riak-Tag: " ++ tag_of s.dot) in
    c.in_ok-extend_from_slice-2.ensures.items
    ∙ (both_pieces _ _ _ _
    (c.in_ok-push_tag_line.ensures
    ∙ ap (λ l. l ++ (t ++ line [])) (c.in_ok-push_kind.ensures
    ∙ ap (λ l. l ++ k) (c.in_ok-extend_from_slice.ensures.items
    ∙ ap (λ l. l ++ line []) c.in_ok-push_delimiter.ensures)))
    c.bytes_of.ensures
    ∙ part_grouped c.args.out.now.items (line []) d k t (bytes_of s.content))
