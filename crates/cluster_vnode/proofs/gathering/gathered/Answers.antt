use Rattle.std.proofs.Common.{ap, ◌∙◌, subst, arith}
use Rattle.cluster_stamps.specs.Rule.{IsWhole}
use Rattle.std.specs.List.{flat_map}
use Rattle.cluster_stamps.specs.declared.view.View.{View}
use Rattle.cluster_vnode.proofs.Stand.{stands}
use Rattle.cluster_vnode.proofs.Counts.{counted, told_apart, stamps_apart}
use Rattle.cluster_vnode.proofs.Differ.{differ}
use Rattle.cluster_vnode.proofs.gathering.gathered.Goals as goal

pub returns-clause-gathered : goal.returns-clause-gathered
returns-clause-gathered g c =
    let j = c.join_vnodes.ensures in (
      (c.join_vnodes.new.all.me.0.histories, j.vnodes.0, subst (λ ts. IsWhole ts c.join_vnodes.new.all.me.0.histories) (j.same.1 ∙ c.join_passes.ensures.passes.1) c.close.ensures),
      j.vnodes.2,
    )

pub returns-clause-stands : goal.returns-clause-stands
returns-clause-stands g c =
    let j = c.join_vnodes.ensures in
    stands _ c.join_vnodes.new.vnodes.items (c.join_vnodes.new.all.me.0.histories, j.vnodes.0, subst (λ ts. IsWhole ts c.join_vnodes.new.all.me.0.histories) (j.same.1 ∙ c.join_passes.ensures.passes.1) c.close.ensures)

pub returns-clause-counted : goal.returns-clause-counted
returns-clause-counted g c =
    counted _ c.join_vnodes.new.all.me.0.histories (subst (λ ts. IsWhole ts c.join_vnodes.new.all.me.0.histories) (c.join_vnodes.ensures.same.1 ∙ c.join_passes.ensures.passes.1) c.close.ensures) c.join_vnodes.new.vnodes.items c.join_vnodes.new.all.me.0.histories c.join_vnodes.ensures.vnodes.0 (λ i h e. (i, e))

pub returns-clause-apart : goal.returns-clause-apart
returns-clause-apart g c x =
    let w : IsWhole (flat_map (λ (p : View). p.told) c.args.passes.items) c.join_vnodes.new.all.me.0.histories = subst (λ ts. IsWhole ts c.join_vnodes.new.all.me.0.histories) (c.join_vnodes.ensures.same.1 ∙ c.join_passes.ensures.passes.1) c.close.ensures in
    (told_apart _ _ w x, omega (arith, stamps_apart x c.join_vnodes.new.vnodes.items c.join_vnodes.new.all.me.0.histories c.join_vnodes.ensures.vnodes.0, w.once x))

pub returns-clause-differ : goal.returns-clause-differ
returns-clause-differ g c =
    let w : IsWhole (flat_map (λ (p : View). p.told) c.args.passes.items) c.join_vnodes.new.all.me.0.histories = subst (λ ts. IsWhole ts c.join_vnodes.new.all.me.0.histories) (c.join_vnodes.ensures.same.1 ∙ c.join_passes.ensures.passes.1) c.close.ensures in
    differ c.join_vnodes.new.vnodes.items c.join_vnodes.new.all.me.0.histories c.join_vnodes.ensures.vnodes.0 w.alone
