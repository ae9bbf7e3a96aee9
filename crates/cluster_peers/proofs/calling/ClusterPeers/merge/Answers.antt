use Rattle.std.proofs.Common.{rules, subst}
use Rattle.cluster_stamps.specs.declared.request.Request.TheVariants as request
use Rattle.cluster_peers.specs.Peering.{IsMerge, Reach}
use Rattle.cluster_peers.proofs.calling.ClusterPeers.merge.Goals as goal

pub returns-clause-merge : goal.returns-clause-merge
returns-clause-merge g c =
    let asked = request.Merge c.args.key.now c.args.from c.args.at c.args.state.now in
    let inner : IsMerge c.self.inside.cluster.now c.self.inside.pass c.call_prepared.new.pass c.args.i asked c.match-call_prepared.result = search rules in
    subst (λ (r : Reach). IsMerge r.size r.pass c.call_prepared.new.pass c.args.i asked c.match-call_prepared.result) c.self.view_is inner
