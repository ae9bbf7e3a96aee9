use Rattle.std.proofs.Common.{ap, sym, ◌∙◌, rules, map, None, Some}
use Rattle.std.specs.Prelude.{if◌then◌else◌}
use Rattle.std.specs.Option.{option_copied}
use Rattle.httparse.specs.Spans.{header_bytes}
use Rattle.http_request.specs.declared.ask.Refusal.TheVariants.{NoLength}
use Rattle.http_request.specs.Fields.{length_fault, length_number}
use Rattle.http_parse.proofs.FieldLemmas.{said_none, said_well, said_badly, said_twice, small_length, large_length}
use Rattle.http_parse.proofs.fields.told_length.Goals as goal

pub returns-then-needs_length-clause-fault : goal.returns-then-needs_length-clause-fault
returns-then-needs_length-clause-fault c =
    let pairs = map (header_bytes c.args.bytes.now) c.args.lines.now in
    ap (length_fault c.args.method.now) (said_none pairs (sym c.requires.first.content_length ∙ ap option_copied c.in_default.is))
    ∙ ap (λ b. if b then Some NoLength else None) (sym c.needs_length.ensures ∙ c.if-needs_length.true)

pub returns-else-needs_length-clause-ok : goal.returns-else-needs_length-clause-ok
returns-else-needs_length-clause-ok c =
    let pairs = map (header_bytes c.args.bytes.now) c.args.lines.now in
    ap (length_fault c.args.method.now) (said_none pairs (sym c.requires.first.content_length ∙ ap option_copied c.in_default.is))
    ∙ ap (λ b. if b then Some NoLength else None) (sym c.needs_length.ensures ∙ c.if-needs_length.false)

pub returns-else-needs_length-clause-length : goal.returns-else-needs_length-clause-length
returns-else-needs_length-clause-length c =
    let pairs = map (header_bytes c.args.bytes.now) c.args.lines.now in
    sym (ap length_number (said_none pairs (sym c.requires.first.content_length ∙ ap option_copied c.in_default.is)))

pub returns-then-not-is_number-clause-fault : goal.returns-then-not-is_number-clause-fault
returns-then-not-is_number-clause-fault c =
    let pairs = map (header_bytes c.args.bytes.now) c.args.lines.now in
    ap (length_fault c.args.method.now) (said_badly pairs c.in-Some.said.now (sym c.requires.first.content_length ∙ ap option_copied c.in-Some.is) (search rules))

pub returns-then-not-all_equal-clause-fault : goal.returns-then-not-all_equal-clause-fault
returns-then-not-all_equal-clause-fault c =
    let pairs = map (header_bytes c.args.bytes.now) c.args.lines.now in
    ap (length_fault c.args.method.now) (said_twice pairs c.in-Some.said.now (sym c.requires.first.content_length ∙ ap option_copied c.in-Some.is) (search rules) (search rules))

pub returns-in-Some-small_number-clause-ok : goal.returns-in-Some-small_number-clause-ok
returns-in-Some-small_number-clause-ok c =
    let pairs = map (header_bytes c.args.bytes.now) c.args.lines.now in
    ap (length_fault c.args.method.now) (said_well pairs c.in-Some.said.now (sym c.requires.first.content_length ∙ ap option_copied c.in-Some.is) (search rules) (search rules))
    ∙ small_length c.args.method.now _ (search rules)

pub returns-in-Some-small_number-clause-length : goal.returns-in-Some-small_number-clause-length
returns-in-Some-small_number-clause-length c =
    let pairs = map (header_bytes c.args.bytes.now) c.args.lines.now in
    c.in-Some-small_number.ensures.small.0
    ∙ sym (ap length_number (said_well pairs c.in-Some.said.now (sym c.requires.first.content_length ∙ ap option_copied c.in-Some.is) (search rules) (search rules)))

pub returns-in-None-clause-fault : goal.returns-in-None-clause-fault
returns-in-None-clause-fault c =
    let pairs = map (header_bytes c.args.bytes.now) c.args.lines.now in
    ap (length_fault c.args.method.now) (said_well pairs c.in-Some.said.now (sym c.requires.first.content_length ∙ ap option_copied c.in-Some.is) (search rules) (search rules))
    ∙ large_length c.args.method.now _ c.in-None.ensures.large
