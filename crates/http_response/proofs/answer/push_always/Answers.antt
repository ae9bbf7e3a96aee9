use Rattle.std.proofs.Common.{◌∙◌, ◌++◌, ap}
use Rattle.std.specs.Prelude.{codes}
use Rattle.http_response.specs.Answer.{escaped}
use Rattle.http_response.proofs.Pieces.{clock_grouped}
use Rattle.http_response.proofs.answer.push_always.Goals as goal

pub returns : goal.returns
returns c =
    let rest = codes "\",\"last_write_wins\":false,\"r\":\"quorum\",\"w\":\"quorum\"}}" in
    let name = escaped c.args.bucket.now in
    c.in_ok-extend_from_slice-2.ensures.items
    ∙ (ap (λ l. l ++ rest) (c.in_ok-push_escaped.ensures ∙ ap (λ l. l ++ name) c.in_ok-extend_from_slice.ensures.items)
    ∙ clock_grouped c.args.text.now.items (codes ",\"name\":\"") name rest)
