use Rattle.std.proofs.Common.{◌∙◌, sym, rules, tests}
use Rattle.std.proofs.lemmas.List.{length-map}
use Rattle.std.proofs.lemmas.Iterator.{YieldsList-from_slice, YieldsList-from_zip, same_from_all}
use Rattle.dvv.specs.declared.Dot.{Dot}
use Rattle.key_state.specs.declared.content.Sibling.{Sibling}
use Rattle.key_state.proofs.Compared.{YieldsList-said}
use Rattle.key_state.proofs.state.have_same_dots.Goals as goal

pub returns-then-siblings-others : goal.returns-then-siblings-others
returns-then-siblings-others c =
    let dot : Sibling → Dot = λ s. s.dot in
    let siblings = c.args.siblings.now in
    let others = c.args.others.now in
    let long = length-map siblings dot ∙ c.if-siblings-others.true ∙ sym (length-map others dot) in
    same_from_all c.all.new.self _ _ _ _ c.all.ensures.ran (YieldsList-from_zip (YieldsList-said dot (YieldsList-from_slice siblings cc)) (YieldsList-said dot (YieldsList-from_slice others cc))) long (λ x q k. search (rules, tests)) (λ x q k. search (rules, tests))
