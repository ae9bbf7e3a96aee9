use Rattle.std.proofs.Common.{◌≡◌, ◌∙◌, ◌++◌, List, ℕ, ap, subst}
use Rattle.std.specs.Prelude.{OnOk}
use Rattle.http_response.specs.Answer.{print_answer, told, choices, tags_text}
use Rattle.http_response.specs.View.{told_of}
use Rattle.http_response.proofs.answer.push_listed.Goals as goal

pub returns : goal.returns
returns c =
    let out = c.args.out.now.items in
    let text = c.as_slice.ensures.value ∙ (c.in_ok-push_tags.ensures ∙ ap (λ l. l ++ tags_text c.args.siblings.now) c.requires) in
    subst (λ (b : List ℕ). OnOk c.push_choices.result (c.push_choices.new.out.items ≡ out ++ print_answer (told_of c.args.read (told choices b)) c.args.how))
    text c.push_choices.ensures
