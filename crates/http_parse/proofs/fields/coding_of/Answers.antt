use Rattle.std.proofs.Common.{ap, sym, ◌∙◌, map}
use Rattle.std.specs.Prelude.{if◌then◌else◌}
use Rattle.std.specs.Option.{option_copied}
use Rattle.httparse.specs.Spans.{header_bytes}
use Rattle.http_request.specs.Fields.{in_chunks, unknown}
use Rattle.http_parse.proofs.FramingLemmas.{coding_none, coding_by}
use Rattle.http_parse.proofs.fields.coding_of.Goals as goal

pub returns-in_default : goal.returns-in_default
returns-in_default c =
    sym (coding_none (map (header_bytes c.args.bytes.now) c.args.lines.now) (sym c.requires.first.transfer_encoding ∙ ap option_copied c.in_default.is))

pub returns-then-is_chunked : goal.returns-then-is_chunked
returns-then-is_chunked c =
    sym (coding_by (map (header_bytes c.args.bytes.now) c.args.lines.now) c.in-Some.said.now _ _
    (sym c.requires.first.transfer_encoding ∙ ap option_copied c.in-Some.is) c.is_said_once-once.ensures c.is_chunked.ensures
    ∙ ap (λ b. if b then in_chunks else unknown) c.if-is_chunked.true)

pub returns-else-is_chunked : goal.returns-else-is_chunked
returns-else-is_chunked c =
    sym (coding_by (map (header_bytes c.args.bytes.now) c.args.lines.now) c.in-Some.said.now _ _
    (sym c.requires.first.transfer_encoding ∙ ap option_copied c.in-Some.is) c.is_said_once-once.ensures c.is_chunked.ensures
    ∙ ap (λ b. if b then in_chunks else unknown) c.if-is_chunked.false)
