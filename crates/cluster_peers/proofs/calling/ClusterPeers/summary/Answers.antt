use Rattle.std.proofs.Common.{rules, subst}
use Rattle.cluster_stamps.specs.declared.request.Request.TheVariants as request
use Rattle.cluster_peers.specs.Peering.{IsSummary, Reach}
use Rattle.cluster_peers.proofs.calling.ClusterPeers.summary.Goals as goal

pub returns-clause-summary : goal.returns-clause-summary
returns-clause-summary g c =
    let asked = request.Summary c.args.key.now in
    let inner : IsSummary c.self.inside.cluster.now c.self.inside.pass c.call_prepared.new.pass c.args.i asked c.match-call_prepared.result = search rules in
    subst (λ (r : Reach). IsSummary r.size r.pass c.call_prepared.new.pass c.args.i asked c.match-call_prepared.result) c.self.view_is inner
