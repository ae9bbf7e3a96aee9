use Rattle.std.proofs.Common.{arith}
use Rattle.http_parse.proofs.ChunkLemmas.{long_section, no_section}
use Rattle.http_parse.proofs.chunks.trailers_in.Goals as goal

pub returns-else-found-le-MAX_HEAD_BYTES : goal.returns-else-found-le-MAX_HEAD_BYTES
returns-else-found-le-MAX_HEAD_BYTES c =
    let at = rw c.in-Ok-Complete.field-0-is at c.in-Ok-Complete.ensures.complete in
    long_section _ at.0 at.1 _ at.2.reads (omega (arith, at.2.len_is, c.if-found-le-MAX_HEAD_BYTES.false))

pub returns-else-bytes-le-MAX_HEAD_BYTES : goal.returns-else-bytes-le-MAX_HEAD_BYTES
returns-else-bytes-le-MAX_HEAD_BYTES c =
    no_section _ (rw c.in-Ok-Partial.field-0-is at c.in-Ok-Partial.ensures.partial) c.if-bytes-le-MAX_HEAD_BYTES.false
