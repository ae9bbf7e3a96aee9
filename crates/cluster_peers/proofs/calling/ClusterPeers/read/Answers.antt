use Rattle.std.proofs.Common.{◌<◌, ◌+◌, subst, arith}
use Rattle.std.proofs.lemmas.Bool.Decides.{nat_tests}
use Rattle.cluster_stamps.specs.declared.request.Request.TheVariants as request
use Rattle.cluster_peers.specs.Peering.{IsRead, Reach}
use Rattle.cluster_peers.proofs.Both.{came_to, read_is}
use Rattle.cluster_peers.proofs.calling.ClusterPeers.read.Goals as goal

pub returns-clause-read : goal.returns-clause-read
returns-clause-read g c =
    let size = c.self.inside.cluster.now in
    let old = c.self.inside.pass in
    let new = c.call_prepared.new.pass in
    let asked = request.Read c.args.key.now in
    let no = c.if-i-count.false in
    let count = c.count.ensures in
    let there : c.args.i < size.vnodes = grind (arith, nat_tests) in
    let came = came_to old new (size.first + c.args.i) asked c.call_prepared.result c.call_prepared.ensures.ok c.call_prepared.ensures.err in
    subst (λ (r : Reach). IsRead r.size r.pass new c.args.i asked c.read_answer.result) c.self.view_is (read_is size old new c.args.i c.args.key.now c.call_prepared.result c.read_answer.result there came c.read_answer.ensures)
