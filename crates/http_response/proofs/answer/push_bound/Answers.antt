use Rattle.std.proofs.Common.{◌≡◌, ◌∙◌, ◌++◌, List, ℕ, Some, ap, subst}
use Rattle.std.specs.Prelude.{OnOk, codes}
use Rattle.http_response.specs.Answer.{print_answer, props_text, told}
use Rattle.http_response.proofs.answer.push_bound.Goals as goal

pub returns : goal.returns
returns c =
    let out = c.args.out.now.items in
    let text = c.as_slice.ensures.value
    ∙ (c.in_ok-push_props.ensures
    ∙ (ap (λ l. l ++ props_text c.args.asked.copies c.bucket.result.now c.args.bound.now) c.requires
    ∙ ap (λ b. props_text c.args.asked.copies b c.args.bound.now) c.bucket.ensures)) in
    subst
    (λ (b : List ℕ). OnOk c.push_told.result (c.push_told.new.out.items
    ≡ out ++ print_answer (record (told (codes "200 OK") b) { media = Some (codes "application/json") }) c.args.how))
    text c.push_told.ensures
