use Rattle.std.proofs.Common.{◌+◌, ap, subst, IfSome}
use Rattle.cluster_stamps.specs.declared.view.Size.{Size}
use Rattle.cluster_vnode.specs.Calls.{IsHandedOut}
use Rattle.cluster.proofs.cluster.Cluster.hand_out.Goals as goal

pub returns-clause-some : goal.returns-clause-some
returns-clause-some g c =
    subst (λ n. IfSome c.hand_out.result (λ handout. IsHandedOut c.args.pass.now c.hand_out.new.pass (n + c.args.vnode) handout.first handout.blocks.items)) (ap (λ (s : Size). s.first) c.self.view_is) c.hand_out.ensures.some
