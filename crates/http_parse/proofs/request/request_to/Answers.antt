use Rattle.std.proofs.Common.{List, ℕ, [], ◌++◌, drop, ◌∙◌, ap, sym, subst, rules, arith, append-nil}
use Rattle.std.specs.Prelude.{◌==◌, ◌||◌, slice_range}
use Rattle.http_request.specs.Body.{HasBody}
use Rattle.http_parse.specs.Bodies.{body_by}
use Rattle.http_request.specs.Ask.{IsUnfinished}
use Rattle.http_parse.specs.Framed.{framing}
use Rattle.http_parse.proofs.TargetLemmas.{head_not_empty}
use Rattle.http_parse.proofs.RequestLemmas.{no_fields, goes, waits, no_body, is_whole}
use Rattle.http_parse.proofs.request.request_to.Goals as goal

pub returns-in-Err-clause-finds : goal.returns-in-Err-clause-finds
returns-in-Err-clause-finds c =
    let h = c.requires.head.1 in
    let target = c.requires.target in rw c.broken.ensures (
      c.requires.head.0.section.len_fits,
      λ e. absurd (search (e, rules)),
      tt,
      no_fields c.args.copies c.args.bytes.now c.args.lines.now c.args.spans h.0 h.1 h.2 _ _ (c.of-method.ensures ∙ h.1.method) h.1.path _ h.1.version
          c.in-Err.refusal target.0 c.in-Err.ensures.fault,
    )

pub returns-then-waits_to_go_on-clause-finds : goal.returns-then-waits_to_go_on-clause-finds
returns-then-waits_to_go_on-clause-finds c =
    let h = c.requires.head.1 in
    let told = goes c.args.copies c.args.bytes.now c.args.lines.now c.args.spans h.0 h.1 h.2 _ _ (c.of-method.ensures ∙ h.1.method) h.1.path _ h.1.version
    (framing c.in-Ok.framed) c.in_ok-head.head.items c.requires.target.0 c.in-Ok.ensures.ok c.in-Ok.ensures.framing
    (sym (c.waits_to_go_on.ensures _ c.fields_of-fields.ensures) ∙ c.if-waits_to_go_on.true) c.in_ok-head.ensures in (
      told.0,
      told.1,
      c.requires.head.0.section.len_fits,
      told.2,
    )

pub returns-in-Unfinished-clause-finds : goal.returns-in-Unfinished-clause-finds
returns-in-Unfinished-clause-finds c =
    let h = c.requires.head.1 in
    let at = rw c.in-Unfinished.is at c.in_ok-needs.ensures in
    let here = sym (c.waits_to_go_on.ensures _ c.fields_of-fields.ensures) ∙ c.if-waits_to_go_on.false in
    let waits_with = waits c.args.copies c.args.bytes.now c.args.lines.now c.args.spans h.0 h.1 h.2 _ _ (c.of-method.ensures ∙ h.1.method) h.1.path _ h.1.version
    (framing c.in-Ok.framed) in (
      subst IsUnfinished (append-nil c.args.bytes.now)
          (waits_with [] c.requires.target.0 c.in-Ok.ensures.ok c.in-Ok.ensures.framing here (at.3 [] (omega (arith, at.0)))),
      at.0,
      at.1,
      λ more fewer. waits_with more c.requires.target.0 c.in-Ok.ensures.ok c.in-Ok.ensures.framing here (at.3 more fewer),
    )

pub returns-in-Bad-clause-finds : goal.returns-in-Bad-clause-finds
returns-in-Bad-clause-finds c =
    let h = c.requires.head.1 in
    let at = rw c.in-Bad.is at c.in_ok-needs.ensures in
    let here = sym (c.waits_to_go_on.ensures _ c.fields_of-fields.ensures) ∙ c.if-waits_to_go_on.false in rw c.broken-in-Bad.ensures (
      c.requires.head.0.section.len_fits,
      λ e. absurd (search (e, rules)),
      tt,
      no_body c.args.copies c.args.bytes.now c.args.lines.now c.args.spans h.0 h.1 h.2 _ _ (c.of-method.ensures ∙ h.1.method) h.1.path _ h.1.version
          (framing c.in-Ok.framed) c.in-Bad.refusal c.requires.target.0 c.in-Ok.ensures.ok c.in-Ok.ensures.framing here at,
    )

pub returns-clause-finds : goal.returns-clause-finds
returns-clause-finds c =
    let h = c.requires.head.1 in
    let target = c.requires.target in
    let at = rw c.in-Whole.is at c.in_ok-needs.ensures in
    let here = sym (c.waits_to_go_on.ensures _ c.fields_of-fields.ensures) ∙ c.if-waits_to_go_on.false in
    let framed = framing c.in-Ok.framed in
    let slice = slice_range c.args.bytes.now c.args.spans.len c.in-Whole.len in
    let joined = c.as_slice.ensures.value ∙ c.take-joined.ensures in
    let body = c.body_of.ensures ∙ ap (body_by framed slice) joined in (
      at.1,
      λ e. omega (arith, at.0, h.1.len, head_not_empty h.0),
      c.in_ok-ask.ensures.fits,
      is_whole c.args.copies c.args.bytes.now c.args.lines.now c.args.spans h.0 h.1 h.2 _ _ (c.of-method.ensures ∙ h.1.method) h.1.path _ h.1.version
          framed c.in_ok-ask.ask _ _ _ c.in-Whole.len _ target.0 c.in-Ok.ensures.ok c.in-Ok.ensures.framing here
          (λ more.
          subst (λ (l : List ℕ). HasBody framed (drop c.args.spans.len c.args.bytes.now ++ more) l (drop c.in-Whole.len c.args.bytes.now ++ more)) (sym body) (at.2 more))
          target.1
          target.2
          c.in_ok-ask.ensures.asked
          (c.closes-ends.ensures ∙ (ap (λ b. (c.args.spans.version == 0) || b) c.fields_of-fields.ensures.closes ∙ search (h.1.version, h.1.fields, rules))),
    )
