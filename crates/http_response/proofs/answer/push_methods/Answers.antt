use Rattle.std.proofs.Common.{◌≡◌, ◌++◌, List, ℕ, Some, subst}
use Rattle.std.specs.Prelude.{OnOk}
use Rattle.http_response.specs.Answer.{print_answer, empty_answer}
use Rattle.http_response.proofs.answer.push_methods.Goals as goal

pub returns : goal.returns
returns c =
    let out = c.args.out.now.items in
    subst (λ (m : List ℕ). OnOk c.push_parts.result (c.push_parts.new.out.items ≡ out ++ print_answer (record empty_answer { allow = Some m }) c.args.how))
    c.methods_of.ensures c.push_parts.ensures
