use Rattle.std.proofs.lemmas.Result.{err_from_is_err_and}
use Rattle.record_codec.specs.Reading.{chain_at, dot_at, next_entry}
use Rattle.record_codec.proofs.Chains.{chain-barred, chain-done, chain-more, chain-unread}
use Rattle.record_codec.proofs.read.each_entry_at.Goals as goal

pub returns-in_err-entry : goal.returns-in_err-entry
returns-in_err-entry c =
    let p = err_from_is_err_and c.from_residual.result c.from_residual.ensures.1 in
    rw (p.1, p.2) (chain-unread dot_at next_entry c.in_err-entry.field-0.0 c.loop.entries.items c.args.count c.loop.counter c.loop.bound c.loop.rest.now (chain_at dot_at next_entry c.args.count 0 c.args.bytes.now) c.loop-test.true c.in_err-entry.ensures c.loop.invariant)

pub returns-in_err-bound : goal.returns-in_err-bound
returns-in_err-bound c =
    let p = err_from_is_err_and c.from_residual-in_err-bound.result c.from_residual-in_err-bound.ensures.1 in
    rw (p.1, p.2) (chain-barred dot_at next_entry c.in_err-bound.field-0.0 c.loop.entries.items c.args.count c.loop.counter c.loop.bound c.loop.rest.now c.in_ok-entry.entry c.in_ok-entry.after.now (chain_at dot_at next_entry c.args.count 0 c.args.bytes.now) c.loop-test.true c.in_ok-entry.ensures c.in_err-bound.ensures c.loop.invariant)

pub loop-preserved : goal.loop-preserved
loop-preserved c =
    rw c.in_ok-push.ensures.items (chain-more dot_at next_entry c.loop.entries.items c.args.count c.loop.counter c.loop.bound c.in_ok-bound.bound c.loop.rest.now c.in_ok-entry.entry c.in_ok-entry.after.now (chain_at dot_at next_entry c.args.count 0 c.args.bytes.now) c.loop-test.true c.in_ok-entry.ensures c.in_ok-bound.ensures c.loop.invariant)

pub returns : goal.returns
returns c = chain-done dot_at next_entry c.loop.entries.items c.args.count c.loop.counter c.loop.bound c.loop.rest.now (chain_at dot_at next_entry c.args.count 0 c.args.bytes.now) c.loop-test.false c.loop.invariant
