use Rattle.std.proofs.Common.{◌≡◌, ◌∙◌, None, subst, sym}
use Rattle.std.specs.Prelude.{All}
use Rattle.audit_cluster.specs.Following.{IsOfWatch, Watches, answers_kept, with_left}
use Rattle.audit_cluster.specs.declared.watch.Watch.TheInside.{Inside}
use Rattle.audit_cluster.proofs.Left.{left_followed}
use Rattle.audit_cluster.proofs.watch.Watch.follow_some.Goals as goal
use Rattle.audit_cluster.proofs.watch.Watch.follow_some.Goals.{else-is_none, then-is_none}

pub invariant_of-self : goal.invariant_of-self
invariant_of-self g c =
    let first = g.B.Spot.first in
    let keeps = λ (s : Inside g.row.B.Denot). (s.first ≡ first) × (s.follower.recent ≡ answers_kept) × All IsOfWatch s.pass.told × (s.lost ≡ None → Watches first s.vnodes s.pass.told (with_left s.follower s.left)) in
    elim c.if-is_none.branch [
      | then-is_none w ↦ subst keeps (sym w.self-inside-is) (
        c.self.invariant.0,
        w.follow.ensures.recent ∙ c.self.invariant.1,
        c.self.invariant.2,
        λ lost. left_followed first c.self.inside.vnodes c.self.inside.pass.told c.self.inside.follower w.follow.new.self c.self.inside.left c.min-bound.result w.follow.result (c.self.invariant.3 lost) c.self.invariant.1 w.follow.ensures.alike w.follow.ensures.none
            w.follow.ensures.fault w.follow.ensures.stop w.follow.ensures.again w.follow.ensures.fronts,
      )
      | else-is_none w ↦ subst keeps (sym w.self-inside-is) c.self.invariant
    ]

pub invariant_of-self-in-Some : goal.invariant_of-self-in-Some
invariant_of-self-in-Some g c =
    let first = g.B.Spot.first in
    let keeps = λ (s : Inside g.row.B.Denot). (s.first ≡ first) × (s.follower.recent ≡ answers_kept) × All IsOfWatch s.pass.told × (s.lost ≡ None → Watches first s.vnodes s.pass.told (with_left s.follower s.left)) in
    elim c.if-is_none.branch [
      | then-is_none w ↦ subst keeps (sym w.self-inside-is) (
        c.self.invariant.0,
        w.follow.ensures.recent ∙ c.self.invariant.1,
        c.self.invariant.2,
        λ lost. left_followed first c.self.inside.vnodes c.self.inside.pass.told c.self.inside.follower w.follow.new.self c.self.inside.left c.min-bound.result w.follow.result (c.self.invariant.3 lost) c.self.invariant.1 w.follow.ensures.alike w.follow.ensures.none
            w.follow.ensures.fault w.follow.ensures.stop w.follow.ensures.again w.follow.ensures.fronts,
      )
      | else-is_none w ↦ subst keeps (sym w.self-inside-is) c.self.invariant
    ]

pub invariant_of-self-2 : goal.invariant_of-self-2
invariant_of-self-2 g c =
    let first = g.B.Spot.first in
    let keeps = λ (s : Inside g.row.B.Denot). (s.first ≡ first) × (s.follower.recent ≡ answers_kept) × All IsOfWatch s.pass.told × (s.lost ≡ None → Watches first s.vnodes s.pass.told (with_left s.follower s.left)) in
    elim c.if-is_none.branch [
      | then-is_none w ↦ subst keeps (sym w.self-inside-is) (
        c.self.invariant.0,
        w.follow.ensures.recent ∙ c.self.invariant.1,
        c.self.invariant.2,
        λ lost. left_followed first c.self.inside.vnodes c.self.inside.pass.told c.self.inside.follower w.follow.new.self c.self.inside.left c.min-bound.result w.follow.result (c.self.invariant.3 lost) c.self.invariant.1 w.follow.ensures.alike w.follow.ensures.none
            w.follow.ensures.fault w.follow.ensures.stop w.follow.ensures.again w.follow.ensures.fronts,
      )
      | else-is_none w ↦ subst keeps (sym w.self-inside-is) c.self.invariant
    ]
