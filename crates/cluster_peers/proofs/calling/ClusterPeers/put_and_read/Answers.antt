use Rattle.std.proofs.Common.{◌≡◌, ◌<◌, Ok, subst, arith}
use Rattle.std.proofs.lemmas.Bool.Decides.{nat_tests}
use Rattle.cluster_stamps.specs.declared.request.Reply.TheVariants.{Dot}
use Rattle.cluster_peers.specs.Peering.{IsPutAndRead, Reach}
use Rattle.cluster_peers.proofs.Both.{both}
use Rattle.cluster_peers.proofs.calling.ClusterPeers.put_and_read.Goals as goal

pub returns-in-Ok-Dot-clause-both : goal.returns-in-Ok-Dot-clause-both
returns-in-Ok-Dot-clause-both g c =
    let size = c.self.inside.cluster.now in
    let old = c.self.inside.pass in
    let new = c.call_and_read-back.new.pass in
    let w = c.in-Ok-Dot in
    let no = c.if-i-count.false in
    let count = c.count.ensures in
    let there : c.args.i < size.vnodes = grind (arith, nat_tests) in
    let call_is = w.field-0-is in
    let told_is = w.dot-is in
    let dot_is : w.field-0.call.0 ≡ Dot w.dot = cc in
    subst (λ (r : Reach). IsPutAndRead r.size r.pass new c.args.i c.args.key.now c.args.seen.now c.args.content.now (Ok (w.dot, c.read_answer.result))) c.self.view_is
    (both size old new c.args.i c.args.key.now c.args.seen.now c.args.content.now w.dot w.field-0.call w.field-0.read c.read_answer.result c.lock.result.id _ there c.lock.ensures c.in-Ok.ensures dot_is w.ensures.ok c.read_answer.ensures)
