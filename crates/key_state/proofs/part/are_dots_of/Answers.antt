use Rattle.std.proofs.Common.{◌∙◌, sym, rules, tests}
use Rattle.std.proofs.lemmas.List.{length-map}
use Rattle.std.proofs.lemmas.Iterator.{YieldsList-from_slice, YieldsList-from_zip, same_from_all}
use Rattle.dvv.specs.declared.Dot.{Dot}
use Rattle.key_state.specs.declared.content.Sibling.{Sibling}
use Rattle.key_state.proofs.Compared.{YieldsList-said}
use Rattle.key_state.proofs.part.are_dots_of.Goals as goal

pub returns-then-dots-siblings : goal.returns-then-dots-siblings
returns-then-dots-siblings c =
    let dot : Sibling → Dot = λ s. s.dot in
    let dots = c.args.dots.now in
    let siblings = c.args.siblings.now in
    let long = c.if-dots-siblings.true ∙ sym (length-map siblings dot) in
    same_from_all c.all.new.self _ _ _ _ c.all.ensures.ran (YieldsList-from_zip (YieldsList-from_slice dots cc) (YieldsList-said dot (YieldsList-from_slice siblings cc))) long (λ x q k. search (rules, tests)) (λ x q k. search (rules, tests))
