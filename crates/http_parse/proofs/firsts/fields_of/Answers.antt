use Rattle.std.proofs.Common.{map, subst, List}
use Rattle.std.proofs.lemmas.List.{drop_more}
use Rattle.httparse.specs.Spans.{header_bytes}
use Rattle.httparse.specs.declared.spans.HeaderSpan.{HeaderSpan}
use Rattle.http_parse.specs.Firsts.{LeadTo}
use Rattle.http_parse.proofs.firsts.fields_of.Goals as goal

pub loop-line-preserved : goal.loop-line-preserved
loop-line-preserved c =
    c.with_line-fields.ensures _ _
    (subst (λ (lines : List HeaderSpan). LeadTo c.loop-line.fields (map (header_bytes c.args.bytes.now) lines) (map (header_bytes c.args.bytes.now) c.args.lines.now))
    (drop_more c.args.lines.now c.loop-line.line-index _ c.loop-line-test.true) c.loop-line.invariant)
