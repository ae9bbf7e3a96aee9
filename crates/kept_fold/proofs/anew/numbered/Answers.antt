use Rattle.std.proofs.Common.{◌∷◌, [], ◌++◌, ◌+◌, ◌∙◌, ap}
use Rattle.key_state.specs.declared.content.Content.{Content}
use Rattle.kept_fold.proofs.Numbered.{at_dot, numbered_more}
use Rattle.kept_fold.proofs.anew.numbered.Goals as goal

pub loop-place-preserved : goal.loop-place-preserved
loop-place-preserved c =
    numbered_more c.args.id c.args.siblings.now c.loop-place.place c.index-siblings-place.result c.loop-place.contents.items c.push.new.self.items c.loop-place-test.true c.index-siblings-place.is c.loop-place.invariant
    (c.in_ok-push.ensures.items ∙ ap (λ (x : Content). c.loop-place.contents.items ++ at_dot c.args.id (c.loop-place.place + 1) x ∷ []) c.in_ok-content.ensures)
