use Rattle.std.proofs.Common.{◌≡◌, ◌++◌, List, ℕ, subst, sym}
use Rattle.std.specs.Prelude.{OnOk}
use Rattle.context_token.specs.Token.{token}
use Rattle.http_response.specs.Answer.{or_nothing}
use Rattle.http_response.specs.View.{etag_by}
use Rattle.http_response.proofs.Pieces.{parts_quoted}
use Rattle.http_response.proofs.field.push_entity_tag.Goals as goal

pub returns-in-Parts : goal.returns-in-Parts
returns-in-Parts c =
    let context = c.args.read.context.now in
    subst (λ v. OnOk c.push_context_tag-in-Parts.result (c.push_context_tag-in-Parts.new.out.items ≡ c.args.out.now.items ++ or_nothing (etag_by v context)))
    (sym c.in-Parts.is)
    (subst (λ (l : List ℕ). OnOk c.push_context_tag-in-Parts.result (c.push_context_tag-in-Parts.new.out.items ≡ c.args.out.now.items ++ l)) (parts_quoted (token context)) c.push_context_tag-in-Parts.ensures)
