use Rattle.std.proofs.Common.{◌≡◌, ◌∙◌, ◌++◌, ◌∷◌, [], List, ℕ, ap, subst}
use Rattle.std.specs.Prelude.{OnOk, codes, decimal}
use Rattle.http_response.specs.Answer.{print_answer, told}
use Rattle.http_response.proofs.answer.push_rejected.Goals as goal

pub returns : goal.returns
returns c =
    let out = c.args.out.now.items in
    let text = c.as_slice.ensures.value
    ∙ (c.in_ok-extend_from_slice-2.ensures.items
    ∙ ap (λ l. l ++ (10 ∷ [])) (c.in_ok-push_number.ensures
    ∙ ap (λ l. l ++ decimal c.args.code) (c.in_ok-extend_from_slice.ensures.items ∙ ap (λ l. l ++ codes "X3 ") c.requires))) in
    subst (λ (b : List ℕ). OnOk c.push_told.result (c.push_told.new.out.items ≡ out ++ print_answer (told (codes "403 Forbidden") b) c.args.how))
    text c.push_told.ensures
