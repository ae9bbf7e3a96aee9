use Rattle.std.proofs.Common.{◌≡◌, arith, length, ap, ◌∙◌}
use Rattle.std.specs.Int.{byte_len}
use Rattle.std.specs.List.{flat_map}
use Rattle.record_codec.specs.declared.form.Form.{Form}
use Rattle.record_codec.specs.Records.{form_of, sibling, width_of}
use Rattle.std.proofs.lemmas.Grind.{common_steps}
use Rattle.record_codec.proofs.Sizes.{length-body}
use Rattle.record_codec.proofs.write.body_len.Goals as goal

pub returns-in_err-room-3 : goal.returns-in_err-room-3
returns-in_err-room-3 c = λ from.
    let wide : byte_len (width_of c.of.result) ≡ byte_len (width_of (form_of c.args.at)) = ap (λ (form : Form). byte_len (width_of form)) c.of.ensures in
    let bucket = ap length c.bucket.ensures in
    let name = ap length c.key.ensures in
    let entries = ap length (c.entries.ensures.all ∙ c.clock.ensures) in
    rw length-body (grind (arith, common_steps))

pub returns-in_err-room-4 : goal.returns-in_err-room-4
returns-in_err-room-4 c = λ from.
    let wide : byte_len (width_of c.of.result) ≡ byte_len (width_of (form_of c.args.at)) = ap (λ (form : Form). byte_len (width_of form)) c.of.ensures in
    let bucket = ap length c.bucket.ensures in
    let name = ap length c.key.ensures in
    let entries = ap length (c.entries.ensures.all ∙ c.clock.ensures) in
    let rest = ap (λ ss. length (flat_map sibling ss)) c.siblings.ensures.all in
    rw length-body (grind (arith, common_steps))

pub returns : goal.returns
returns c = λ from.
    let wide : byte_len (width_of c.of.result) ≡ byte_len (width_of (form_of c.args.at)) = ap (λ (form : Form). byte_len (width_of form)) c.of.ensures in
    let bucket = ap length c.bucket.ensures in
    let name = ap length c.key.ensures in
    let entries = ap length (c.entries.ensures.all ∙ c.clock.ensures) in
    let rest = ap (λ ss. length (flat_map sibling ss)) c.siblings.ensures.all in
    rw length-body (omega arith, omega arith)
