use Rattle.std.proofs.Common.{Ok, Option, ap, sym, ◌∙◌, subst}
use Rattle.key_state.specs.declared.content.Content.{Content}
use Rattle.quorum.specs.Judged.{AfterJudged, or_same}
use Rattle.quorum.proofs.putting.put_passed.Goals as goal

pub returns-in-Ok-Some : goal.returns-in-Ok-Some
returns-in-Ok-Some g c listed =
    let put = c.put_content.ensures in
    (put.0, put.1, subst (λ r. AfterJudged listed c.args.request.coordinator c.args.request.others.now c.args.request.key.now c.args.request.w c.args.request.seen.now c.args.request.content.now (or_same c.args.request.content.now r) put.0 c.put_content.result) (sym (c.in-Ok-Some.is ∙ ap (λ (o : Option Content). Ok o) c.in-Ok-Some.field-0-is)) put.2)

pub returns-in-Ok-None : goal.returns-in-Ok-None
returns-in-Ok-None g c listed =
    let put = c.put_content-in-Ok-None.ensures in
    (put.0, put.1, subst (λ r. AfterJudged listed c.args.request.coordinator c.args.request.others.now c.args.request.key.now c.args.request.w c.args.request.seen.now c.args.request.content.now (or_same c.args.request.content.now r) put.0 c.put_content-in-Ok-None.result) (sym (c.in-Ok-None.is ∙ ap (λ (o : Option Content). Ok o) c.in-Ok-None.field-0-is)) put.2)
