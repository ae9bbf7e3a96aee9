use Rattle.std.proofs.Common.{rules, subst}
use Rattle.cluster_stamps.specs.declared.request.Request.TheVariants as request
use Rattle.cluster_peers.specs.Peering.{IsPut, Reach}
use Rattle.cluster_peers.proofs.calling.ClusterPeers.put.Goals as goal

pub returns-clause-put : goal.returns-clause-put
returns-clause-put g c =
    let asked = request.Put c.args.key.now c.args.seen.now c.args.content.now in
    let inner : IsPut c.self.inside.cluster.now c.self.inside.pass c.call_prepared.new.pass c.args.i asked c.match-call_prepared.result = search rules in
    subst (λ (r : Reach). IsPut r.size r.pass c.call_prepared.new.pass c.args.i asked c.match-call_prepared.result) c.self.view_is inner
