use Rattle.std.proofs.Common.{arith, sym, subst, refl, [], ◌+◌, take}
use Rattle.std.specs.List.{flat_map}
use Rattle.repair.specs.Repairs.{deliveries_of}
use Rattle.repair.proofs.RepairLemmas.{Tried, tried_more, senders_more}
use Rattle.peers.proofs.CallLemmas.{made_stays}
use Rattle.repair.proofs.repairing.repair.Goals as goal

pub loop-sender-preserved : goal.loop-sender-preserved
loop-sender-preserved g c =
    let h = c.loop-sender.invariant in
    let d = c.deliver-delivered.ensures.calls in (
      subst (λ ds. Tried g.P.Peers.happens c.args.peers.now c.deliver-delivered.new.peers c.args.key.now ds (c.loop-sender.delivered + c.deliver-delivered.result)) (sym (senders_more c.args.answers.now c.loop-sender.sender-index c.sender-item.result (omega arith) c.sender-item.is))
          (tried_more g.P.Peers.happens c.args.peers.now c.loop-sender.peers c.deliver-delivered.new.peers c.args.key.now (flat_map (deliveries_of c.args.answers.now) (take c.loop-sender.sender-index c.args.answers.now)) (deliveries_of c.args.answers.now c.sender-item.result) c.loop-sender.delivered c.deliver-delivered.result h.0
          (record { backs = d.0; made = d.1; each = d.2; taken = d.3 })),
      let f = c.deliver-delivered.ensures.few in omega arith,
    )

pub returns-then-are_alike-clause-calls : goal.returns-then-are_alike-clause-calls
returns-then-are_alike-clause-calls g c =
    let none = c.are_alike.ensures c.if-are_alike.true in ([], refl, rw none refl, refl)

pub returns-clause-origin : goal.returns-clause-origin
returns-clause-origin g c = made_stays g.P.Peers.happens g.P.Peers.origin g.met.P.Peers.stays _ _ _ c.loop-sender.invariant.0.made
