use Rattle.std.proofs.Common.{◌<◌, ◌+◌, sym, subst, arith}
use Rattle.std.proofs.lemmas.Bool.Decides.{nat_tests}
use Rattle.cluster_stamps.specs.declared.request.Reply.{Reply}
use Rattle.cluster_stamps.specs.declared.request.Request.{Request}
use Rattle.cluster_stamps.specs.declared.request.Request.TheVariants.{Part}
use Rattle.cluster_stamps.specs.Rule.{call_of}
use Rattle.cluster_vnode.specs.Calls.{IsNews, IsFault, outcome_ok}
use Rattle.cluster_peers.specs.Peering.{IsPart, Reach}
use Rattle.cluster_peers.proofs.Parts.{is_merged, is_refused}
use Rattle.cluster_peers.proofs.calling.ClusterPeers.merge_part.Goals.{in-Ok-Built-default, in-Err}
use Rattle.cluster_peers.proofs.calling.ClusterPeers.merge_part.Goals as goal

pub returns-clause-part : goal.returns-clause-part
returns-clause-part g c =
    let size = c.self.inside.cluster.now in
    let old = c.self.inside.pass in
    let new = c.call_prepared.new.pass in
    let request = Part c.args.key.now c.args.from c.args.at c.args.part.now in
    let no = c.if-i-count.false in
    let count = c.count.ensures in
    let there : c.args.i < size.vnodes = grind (arith, nat_tests) in
    subst (λ (r : Reach). IsPart r.size r.pass new c.args.i request c.match-call_prepared.result) c.self.view_is
    (elim c.match-call_prepared.branch [
      | in-Ok-Built-default w ↦
          let m = w.in-Ok-Built-default in
          subst (IsPart size old new c.args.i request) (sym w.result-is)
          (is_merged size old new c.args.i request m.changed m.field-0-0-1 m.field-0-1.place m.field-0-1.stamp there
          (subst (λ (told : Reply). IsNews old new (call_of (size.first + c.args.i) m.field-0-1.place m.field-0-1.stamp request (outcome_ok told))) m.field-0-0-is
          (subst (λ (q : Request). IsNews old new (call_of (size.first + c.args.i) m.field-0-1.place m.field-0-1.stamp q (outcome_ok m.field-0-0))) c.in-Ok.ensures m.ensures.ok.1)))
      | in-Err w ↦
          subst (IsPart size old new c.args.i request) (sym w.result-is)
          (is_refused size old new c.args.i request w.in-Err.fault w.part_refused.result there
          (subst (λ (q : Request). IsFault old new (size.first + c.args.i) q w.in-Err.fault) c.in-Ok.ensures w.in-Err.ensures.err) w.part_refused.ensures)
    ])
