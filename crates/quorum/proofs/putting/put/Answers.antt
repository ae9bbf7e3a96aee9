use Rattle.std.proofs.Common.{Ok, Some, None, subst}
use Rattle.quorum.specs.Puts.{IsPut}
use Rattle.quorum.specs.Judged.{IsJudgedPut}
use Rattle.peers.proofs.CallLemmas.{made_stays}
use Rattle.quorum.proofs.RisenLemmas.{made_risen, few_put}
use Rattle.quorum.proofs.JudgedLemmas.{few_judged}
use Rattle.quorum.proofs.StoredLemmas.{if_stored}
use Rattle.quorum.proofs.putting.put.Goals as goal

pub returns-in-Ok-Some-clause-few : goal.returns-in-Ok-Some-clause-few
returns-in-Ok-Some-clause-few g c = λ e le.
    let h = c.put_judged.ensures.calls in
    made_risen g.P.Peers.happens g.P.Peers.failures g.met.P.Peers.counted c.args.peers.now c.put_judged.new.peers h.0 h.1
    (few_judged c.args.hooking.now.table.listed c.args.request.coordinator c.args.request.others.now c.args.request.key.now c.args.request.w le c.args.request.seen.now c.args.request.content.now (Ok (Some c.deref.result.now)) h.0
    (subst (IsJudgedPut c.args.hooking.now.table.listed c.args.request.coordinator c.args.request.others.now c.args.request.key.now c.args.request.w c.args.request.seen.now c.args.request.content.now (Ok (Some c.deref.result.now)) h.0) e h.2))

pub returns-in-Ok-None-clause-few : goal.returns-in-Ok-None-clause-few
returns-in-Ok-None-clause-few g c = λ e le.
    let h = c.put_content.ensures in
    made_risen g.P.Peers.happens g.P.Peers.failures g.met.P.Peers.counted c.args.peers.now c.put_content.new.peers h.0 h.1
    (few_put c.args.request.coordinator c.args.request.others.now c.args.request.key.now c.args.request.w le c.args.request.seen.now c.args.request.content.now h.0
    (subst (IsPut c.args.request.coordinator c.args.request.others.now c.args.request.key.now c.args.request.w c.args.request.seen.now c.args.request.content.now h.0) e h.2))

pub returns-in-Ok-Some-clause-origin : goal.returns-in-Ok-Some-clause-origin
returns-in-Ok-Some-clause-origin g c = made_stays g.P.Peers.happens g.P.Peers.origin g.met.P.Peers.stays _ _ _ c.put_judged.ensures.calls.1

pub returns-in-Ok-None-clause-origin : goal.returns-in-Ok-None-clause-origin
returns-in-Ok-None-clause-origin g c = made_stays g.P.Peers.happens g.P.Peers.origin g.met.P.Peers.stays _ _ _ c.put_content.ensures.1

pub returns-in-Ok-Some-clause-stored : goal.returns-in-Ok-Some-clause-stored
returns-in-Ok-Some-clause-stored g c =
    let h = c.put_judged.ensures.calls in
    if_stored c.args.request.coordinator c.args.request.others.now c.args.request.key.now c.args.request.w c.args.request.seen.now c.args.hooking.now.table.listed c.args.request.content.now g.P.Peers.happens c.args.peers.now c.put_judged.new.peers (Ok (Some c.deref.result.now)) h.0 c.put_judged.result h.1 h.2

pub returns-in-Ok-None-clause-stored : goal.returns-in-Ok-None-clause-stored
returns-in-Ok-None-clause-stored g c =
    let h = c.put_content.ensures in
    if_stored c.args.request.coordinator c.args.request.others.now c.args.request.key.now c.args.request.w c.args.request.seen.now c.args.hooking.now.table.listed c.args.request.content.now g.P.Peers.happens c.args.peers.now c.put_content.new.peers (Ok None) h.0 c.put_content.result h.1 h.2
