use Rattle.std.proofs.Common.{refl, arith}
use Rattle.peer_frames.proofs.Opening.{front_is_whole}
use Rattle.peer_frames.proofs.seal.front_of.Goals as goal

pub returns-in-Some-split_first_chunk-2 : goal.returns-in-Some-split_first_chunk-2
returns-in-Some-split_first_chunk-2 c =
    front_is_whole c.args.bytes.now c.in-Some.len.now c.in-Some.rest.now c.in-Some-split_first_chunk.number.now c.in-Some-split_first_chunk.rest.now c.split_at.result.0.now c.split_at.result.1.now c.in-Some-split_first_chunk-2.tag.now c.from_be_bytes-len.result
    (record { number = c.from_be_bytes-number.result; body = c.split_at.result.0; tag = c.in-Some-split_first_chunk-2.tag })
    c.in-Some.ensures.cases.0 c.in-Some.ensures.cases.1 c.from_be_bytes-len.ensures c.if-len-gt-MAX_BODY_BYTES.false
    c.in-Some-split_first_chunk.ensures.cases.0 c.in-Some-split_first_chunk.ensures.cases.1 c.split_at.ensures.front c.split_at.ensures.back c.in-Some-split_first_chunk-2.ensures.cases.0
    (omega (arith, c.in-Some.ensures.cases.2, c.in-Some-split_first_chunk.ensures.cases.2, c.split_at.ensures.back_len, c.in-Some-split_first_chunk-2.ensures.cases.2, c.if-len-rest.false))
    c.from_be_bytes-number.ensures refl refl
