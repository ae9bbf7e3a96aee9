use Rattle.std.proofs.Common.{sym, arith}
use Rattle.std.proofs.lemmas.List.{take_all, length-take-le}
use Rattle.http_request.specs.Limits.{longest_coded}
use Rattle.http_parse.proofs.chunks.longest_front.Goals as goal

pub returns-then-bytes-le-MAX_CODED_BYTES : goal.returns-then-bytes-le-MAX_CODED_BYTES
returns-then-bytes-le-MAX_CODED_BYTES c = sym (take_all longest_coded c.args.bytes.now c.if-bytes-le-MAX_CODED_BYTES.true)

pub slice_bounds-result-end : goal.slice_bounds-result-end
slice_bounds-result-end c = sym (length-take-le longest_coded c.args.bytes.now (omega (arith, c.if-bytes-le-MAX_CODED_BYTES.false)))
