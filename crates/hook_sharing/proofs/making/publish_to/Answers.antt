use Rattle.std.proofs.Common.{◌∙◌, sym, subst}
use mathlib.Core.List.{IsPrefix}
use Rattle.hook_sharing.proofs.Learning.{learned}
use Rattle.hook_sharing.proofs.making.publish_to.Goals as goal

pub returns-clause-ok : goal.returns-clause-ok
returns-clause-ok g c =
    let is = c.in_ok-note.ensures.ok.0 in
    let before = subst (λ xs. IsPrefix c.args.reader.now xs) (sym is) c.requires in
    learned c.args.reader.now c.in_ok-note.note c.learn.new.self before c.learn.ensures.one c.learn.ensures.told ∙ is
