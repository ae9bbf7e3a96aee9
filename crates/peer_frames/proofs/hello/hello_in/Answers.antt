use Rattle.std.proofs.Common.{refl, arith, slice_index_or}
use Rattle.peer_frames.proofs.HelloLemmas.{hello_found}
use Rattle.peer_frames.proofs.hello.hello_in.Goals as goal

pub returns-clause-spelled : goal.returns-clause-spelled
returns-clause-spelled c =
    let list = c.in-Some-split_first_chunk.list.now in
    let random = c.in-Some-split_first_chunk-2.random.now in
    hello_found c.args.secret.now c.args.bytes.now c.split_at.result.1.now c.in-Some.rest.now c.in-Some-split_first_chunk.rest.now c.in-Some.number.now
    (record { side = c.args.side; server = slice_index_or c.args.bytes.now 6 0; number = c.from_be_bytes.result; list = list; random = random })
    (λ i. omega (arith, c.type_inv.bytes i)) c.requires.whole c.requires.marked c.requires.version c.requires.side c.requires.tagged
    refl c.split_at.ensures.back c.in-Some.ensures.cases.0 c.in-Some.ensures.cases.1 c.from_be_bytes.ensures c.in-Some-split_first_chunk.ensures.cases.0 c.in-Some-split_first_chunk.ensures.cases.1 c.in-Some-split_first_chunk-2.ensures.cases.0
