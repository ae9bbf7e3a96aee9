use Rattle.std.proofs.Common.{◌≡◌, ◌+◌, ℕ, ap, refl, rules, sym, ◌∙◌, true, false}
use Rattle.std.specs.Prelude.{is_some}
use Rattle.audit_cluster.specs.Following.{with_left}
use Rattle.audit_cluster.proofs.Left.{heard_left, not_some}
use Rattle.audit_cluster.proofs.Taken.{still_own, told_handed, watches_let_go}
use Rattle.audit_cluster.proofs.watch.Watch.hear.Goals as goal
use Rattle.audit_cluster.proofs.watch.Watch.hear.Goals.{then-is_some-2-via-then-is_some-2, then-is_some-2-via-else-is_some-2+then-is_some-3}

pub invariant_of-self-then-is_some-2 : goal.invariant_of-self-then-is_some-2
invariant_of-self-then-is_some-2 g c = (
  c.self.invariant.0,
  c.self.invariant.1,
  still_own c.self.inside.pass.told c.hand_out.new.pass.told c.self.invariant.2 (told_handed c.self.inside.pass c.hand_out.new.pass c.self.inside.pass.told (c.args.cluster.now.first + c.args.index) c.in-Some.handout.first c.in-Some.handout.blocks.items c.in-Some.ensures.some refl),
  λ lost. elim c.then-is_some-2.branch [
    | then-is_some-2-via-then-is_some-2 w ↦ absurd (let clash : false ≡ true = sym (ap is_some lost) ∙ sym c.is_some-2.ensures ∙ w.if-is_some-2.true in cc)
    | then-is_some-2-via-else-is_some-2+then-is_some-3 w ↦ watches_let_go g.B.Spot.first c.self.inside.vnodes c.self.inside.pass c.hand_out.new.pass (with_left c.self.inside.follower c.self.inside.left) (c.args.cluster.now.first + c.args.index) c.in-Some.handout.first c.in-Some.handout.blocks.items
        (c.self.invariant.3 lost) (ap is_some (sym w.fault.ensures.fault) ∙ sym w.is_some-else-is_some-2.ensures ∙ w.if-is_some-3.true) c.in-Some.ensures.some
  ],
)

pub invariant_of-self-in-Ok : goal.invariant_of-self-in-Ok
invariant_of-self-in-Ok g c = (
  c.self.invariant.0,
  c.self.invariant.1,
  still_own c.self.inside.pass.told c.hand_out.new.pass.told c.self.invariant.2 (told_handed c.self.inside.pass c.hand_out.new.pass c.self.inside.pass.told (c.args.cluster.now.first + c.args.index) c.in-Some.handout.first c.in-Some.handout.blocks.items c.in-Some.ensures.some refl),
  (let is = c.in-Ok.ensures.left in
      λ lost. heard_left g.B.Spot.first c.self.inside.vnodes c.self.inside.pass c.hand_out.new.pass c.self.inside.follower c.self.inside.left c.in-Ok.left c.args.index (c.args.cluster.now.first + c.args.index) c.in-Some.handout.first c.in-Some.handout.blocks.items (c.self.invariant.3 lost)
      (not_some c.self.inside.left (sym c.is_some.ensures ∙ c.if-is_some.false)) is.2 is.3 is.4 is.0 is.1 (ap (λ (n : ℕ). n + c.args.index) c.requires.first) c.in-Some.ensures.some),
)

pub invariant_of-self-in-Err : goal.invariant_of-self-in-Err
invariant_of-self-in-Err g c = (
  c.self.invariant.0,
  c.self.invariant.1,
  still_own c.self.inside.pass.told c.hand_out.new.pass.told c.self.invariant.2 (told_handed c.self.inside.pass c.hand_out.new.pass c.self.inside.pass.told (c.args.cluster.now.first + c.args.index) c.in-Some.handout.first c.in-Some.handout.blocks.items c.in-Some.ensures.some refl),
  λ lost. absurd (search (lost, rules)),
)
