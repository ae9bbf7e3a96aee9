use Rattle.std.proofs.Common.{◌≡◌, map, drop}
use Rattle.std.specs.Prelude.{◌&&◌, bytes_eq}
use Rattle.std.specs.List.{list_all}
use Rattle.httparse.specs.Spans.{header_bytes}
use Rattle.http_request.specs.Fields as spec
use Rattle.http_parse.proofs.fields.all_equal.Given as goal

abbrev pub invariant-loop-line : goal.invariant-loop-line
invariant-loop-line l =
    list_all (λ u. spec.is_number u && bytes_eq (spec.without_zeros u) (spec.without_zeros l.number)) (spec.values_of l.name (map (header_bytes l.bytes) (drop l.line-index l.lines)))
    ≡ list_all (λ u. spec.is_number u && bytes_eq (spec.without_zeros u) (spec.without_zeros l.number)) (spec.values_of l.name (map (header_bytes l.bytes) l.lines))
