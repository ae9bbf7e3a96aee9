use Rattle.std.proofs.Common.{arith, ap, Err}
use Rattle.http_parse.proofs.HeadLemmas.{overfull_is_bad, long_partial_is_bad, long_head_is_bad}
use Rattle.http_parse.proofs.head.read_head.Goals as goal

pub returns-else-spans-le-MAX_HEAD_BYTES : goal.returns-else-spans-le-MAX_HEAD_BYTES
returns-else-spans-le-MAX_HEAD_BYTES c =
    let at = rw c.in-Ok-Complete.field-0-is at c.in-Ok-Complete.ensures.complete in
    long_head_is_bad _ at.0 _ at.1.reads (omega (arith, at.1.len, c.if-spans-le-MAX_HEAD_BYTES.false))

pub returns-else-bytes-le-MAX_HEAD_BYTES : goal.returns-else-bytes-le-MAX_HEAD_BYTES
returns-else-bytes-le-MAX_HEAD_BYTES c =
    let none = rw c.in-Ok-Partial.field-0-is at c.in-Ok-Partial.ensures.partial in
    long_partial_is_bad _ none c.if-bytes-le-MAX_HEAD_BYTES.false

pub returns-in-Err-TooManyHeaders : goal.returns-in-Err-TooManyHeaders
returns-in-Err-TooManyHeaders c =
    overfull_is_bad _ (rw c.requires at c.in-Err-TooManyHeaders.ensures.no_room)
    (rw c.requires at c.in-Err-TooManyHeaders.ensures.too_many (ap Err c.in-Err-TooManyHeaders.field-0-is))
