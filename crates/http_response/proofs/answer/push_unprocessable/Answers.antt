use Rattle.std.proofs.Common.{◌≡◌, ◌∙◌, ◌++◌, List, ℕ, subst}
use Rattle.std.specs.Prelude.{OnOk}
use Rattle.http_response.specs.Answer.{print_answer, told, unprocessable}
use Rattle.http_response.proofs.answer.push_unprocessable.Goals as goal

pub returns : goal.returns
returns c =
    let out = c.args.out.now.items in
    subst (λ (b : List ℕ). OnOk c.push_told.result (c.push_told.new.out.items ≡ out ++ print_answer (told unprocessable b) c.args.how))
    (c.as_slice.ensures.value ∙ c.in_ok-extend_from_slice.ensures.items) c.push_told.ensures
