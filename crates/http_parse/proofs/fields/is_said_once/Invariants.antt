use Rattle.std.proofs.Common.{◌≡◌, ◌+◌, ◌≤◌, length, map, drop}
use Rattle.httparse.specs.Spans.{header_bytes}
use Rattle.http_request.specs.Fields.{values_of}
use Rattle.http_parse.proofs.fields.is_said_once.Given as goal

-- those that were found and those that are left are all
abbrev pub invariant-loop-line : goal.invariant-loop-line
invariant-loop-line l =
    (l.count ≤ l.line-index)
    × (l.count + length (values_of l.name (map (header_bytes l.bytes) (drop l.line-index l.lines))) ≡ length (values_of l.name (map (header_bytes l.bytes) l.lines)))
