use Rattle.std.proofs.Common.{ℕ, ◌+◌, ◌-◌, ◌^◌, Bool, min, if◌then◌else◌, sym, ap, ◌∙◌, subst}
use Rattle.cluster_stamps.specs.declared.view.View.{View}
use Rattle.cluster_peers.specs.Peering.{Reach, IsPutAndRead}
use Rattle.cluster_peers.proofs.Both.{made_both}
use Rattle.cluster_peers.proofs.calling.ClusterPeersPeers.put_and_read_at.Goals as goal

pub returns-clause-made : goal.returns-clause-made
returns-clause-made g c =
    let old : Reach = c.args.self.now in
    let back = c.put_and_read-back.result in
    let told = c.put_and_read-back.ensures in
    made_both old c.count.new.self c.args.i c.args.key.now c.args.seen.now c.args.content.now back
    (subst (λ (v : View). IsPutAndRead old.size old.pass v c.args.i c.args.key.now c.args.seen.now c.args.content.now back) (sym (ap (λ (r : Reach). r.pass) c.count.ensures)) told.both)
    (ap (λ (r : Reach). r.size) c.count.ensures ∙ told.same.0)
    (ap (λ (r : Reach). r.failures) c.count.ensures ∙ ap (λ (n : ℕ). if c.fails_within.result then min (n + 1) (2 ^ 64 - 1) else n) told.same.1
    ∙ ap (λ (b : Bool). if b then min (old.failures + 1) (2 ^ 64 - 1) else old.failures) c.fails_within.ensures)
