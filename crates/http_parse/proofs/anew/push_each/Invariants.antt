use Rattle.std.proofs.Common.{◌≡◌, ◌++◌, take}
use Rattle.std.specs.List.{flat_map}
use Rattle.httparse.specs.Spans.{header_bytes}
use Rattle.http_request.specs.Fields.{line_anew}
use Rattle.http_parse.proofs.anew.push_each.Given as goal

-- the fields so far
abbrev pub invariant-loop-line : goal.invariant-loop-line
invariant-loop-line l = l.head.items ≡ l.initial.head.items ++ flat_map (λ line. line_anew (header_bytes l.bytes line)) (take l.line-index l.lines)
