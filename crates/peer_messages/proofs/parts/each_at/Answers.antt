use Rattle.std.proofs.lemmas.Result.{err_from_is_err_and}
use Rattle.record_codec.specs.Reading.{chain_at, no_dot}
use Rattle.peer_messages.specs.Reading.{next_part, part_sibling_at}
use Rattle.record_codec.proofs.Chains.{chain-barred, chain-done, chain-more, chain-unread}
use Rattle.peer_messages.proofs.parts.each_at.Goals as goal

pub returns-in_err-sibling : goal.returns-in_err-sibling
returns-in_err-sibling c =
    let p = err_from_is_err_and c.from_residual.result c.from_residual.ensures.1 in
    rw (p.1, p.2) (chain-unread part_sibling_at (next_part c.args.clock.now) c.in_err-sibling.field-0.0 c.loop.siblings.items c.args.count c.loop.counter c.loop.last c.loop.rest.now (chain_at part_sibling_at (next_part c.args.clock.now) c.args.count no_dot c.args.bytes.now) c.loop-test.true c.in_err-sibling.ensures c.loop.invariant)

pub returns-in_err-last : goal.returns-in_err-last
returns-in_err-last c =
    let p = err_from_is_err_and c.from_residual-in_err-last.result c.from_residual-in_err-last.ensures.1 in
    rw (p.1, p.2) (chain-barred part_sibling_at (next_part c.args.clock.now) c.in_err-last.field-0.0 c.loop.siblings.items c.args.count c.loop.counter c.loop.last c.loop.rest.now c.in_ok-sibling.sibling c.in_ok-sibling.after.now (chain_at part_sibling_at (next_part c.args.clock.now) c.args.count no_dot c.args.bytes.now) c.loop-test.true c.in_ok-sibling.ensures c.in_err-last.ensures c.loop.invariant)

pub loop-preserved : goal.loop-preserved
loop-preserved c =
    rw c.in_ok-push.ensures.items (chain-more part_sibling_at (next_part c.args.clock.now) c.loop.siblings.items c.args.count c.loop.counter c.loop.last c.in_ok-last.last c.loop.rest.now c.in_ok-sibling.sibling c.in_ok-sibling.after.now (chain_at part_sibling_at (next_part c.args.clock.now) c.args.count no_dot c.args.bytes.now) c.loop-test.true c.in_ok-sibling.ensures c.in_ok-last.ensures c.loop.invariant)

pub returns : goal.returns
returns c = chain-done part_sibling_at (next_part c.args.clock.now) c.loop.siblings.items c.args.count c.loop.counter c.loop.last c.loop.rest.now (chain_at part_sibling_at (next_part c.args.clock.now) c.args.count no_dot c.args.bytes.now) c.loop-test.false c.loop.invariant
