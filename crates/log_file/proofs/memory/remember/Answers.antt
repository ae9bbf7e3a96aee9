use Rattle.std.proofs.Common.{◌≡◌, inl, inr, ⊎_elim, List, ℕ, rules, subst, ◌∙◌, Vec}
use Rattle.std.specs.declared.alloc.Global.{Global}
use Rattle.log_file.specs.Outcomes.{HasContent}
use Rattle.log_file.proofs.Outcomes.{pushed}
use Rattle.log_file.proofs.memory.remember.Goals as goal

pub returns : goal.returns
returns c = λ content has.
    let same : c.in_ok-to_vec.field-0.items ≡ c.args.bytes.now = search rules in
    ⊎_elim (λ (had : HasContent c.args.others.now.items content). inl had) (λ (it : content ≡ c.in_ok-to_vec.field-0.items). inr (it ∙ same))
    (pushed c.args.others.now.items c.in_ok-to_vec.field-0 content (subst (λ (l : List (Vec ℕ Global)). HasContent l content) c.in_ok-push.ensures.items has))
