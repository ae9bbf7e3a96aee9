use Rattle.std.proofs.Common.{refl, ◌++◌}
use Rattle.peers.proofs.CallLemmas.{made_append, made_stays}
use Rattle.repair.proofs.exchanging.exchange.Goals as goal

pub returns-clause-calls : goal.returns-clause-calls
returns-clause-calls g c =
    let a = c.bring_keys-there.ensures.calls in
    let b = c.bring_keys-back.ensures.calls in
    (a.0, b.0, c.bring_keys-there.result, c.bring_keys-back.result, made_append g.P.Peers.happens c.args.peers.now c.bring_keys-there.new.peers c.bring_keys-back.new.peers a.0 b.0 a.1 b.1, a.2, b.2, refl, refl)

pub returns-clause-origin : goal.returns-clause-origin
returns-clause-origin g c =
    let a = c.bring_keys-there.ensures.calls in
    let b = c.bring_keys-back.ensures.calls in
    made_stays g.P.Peers.happens g.P.Peers.origin g.met.P.Peers.stays c.args.peers.now c.bring_keys-back.new.peers (a.0 ++ b.0) (made_append g.P.Peers.happens c.args.peers.now c.bring_keys-there.new.peers c.bring_keys-back.new.peers a.0 b.0 a.1 b.1)
