use Rattle.std.proofs.Common.{map, drop}
use Rattle.httparse.specs.Spans.{header_bytes}
use Rattle.http_parse.specs.Firsts.{LeadTo}
use Rattle.http_parse.proofs.firsts.fields_of.Given as goal

abbrev pub invariant-loop-line : goal.invariant-loop-line
invariant-loop-line l = LeadTo l.fields (map (header_bytes l.bytes) (drop l.line-index l.lines)) (map (header_bytes l.bytes) l.lines)
