use Rattle.std.proofs.Common.{◌∙◌, ◌+◌, ◌<◌, ◌≤◌, ℕ, List, Option, length, ap, refl, sym, subst, arith}
use Rattle.cluster_stamps.specs.declared.view.Told.{Told}
use Rattle.audit_follower.specs.Waiting.{Taken, waiting_at}
use Rattle.audit_cluster.specs.Following.{Watched, Watches, IsIdle, Rouses, with_left}
use Rattle.audit_cluster.specs.declared.watch.Left.{Left}
use Rattle.audit_cluster.specs.declared.watch.Watch.TheInside.{Inside}
use Rattle.audit_cluster.proofs.Taken.{still_own, roused_own, RousesUpTo, nothing_waits, restarts_alone, rouses_all, rouses_more, rouses_none, rouses_on, watches_still}
use Rattle.audit_cluster.proofs.watch.Watch.rouse.Goals as goal
use Rattle.audit_cluster.proofs.watch.Watch.rouse.Goals.{then-waiting-eq0, else-waiting-eq0}

pub loop-index-init : goal.loop-index-init
loop-index-init g c = record { told = rouses_none 0 g.B.Spot.first c.self.inside.follower c.self.inside.pass.told; follower = refl; left = refl; lost = refl; first = refl; vnodes = refl }

pub waiting-requires : goal.waiting-requires
waiting-requires g c =
    let size = ap (λ (t : Taken). length t.followed) c.loop-index.invariant.follower in
    record { inside = omega (arith, size, c.loop-index-test.true, c.min-index-end.ensures, c.count-2.ensures.count) }

pub followed-entries-requires : goal.followed-entries-requires
followed-entries-requires g c =
    let size = ap (λ (t : Taken). length t.followed) c.loop-index.invariant.follower in
    record { inside = omega (arith, size, c.loop-index-test.true, c.min-index-end.ensures, c.count-2.ensures.count) }

pub loop-index-preserved : goal.loop-index-preserved
loop-index-preserved g c =
    elim c.if-waiting-eq0.branch [
      | then-waiting-eq0 w ↦
          (let was = c.loop-index.invariant in
          let first = g.B.Spot.first in
          let taken = c.self.inside.follower in
          let i = c.loop-index.index in
          let here = ap (λ (t : Taken). length (waiting_at t.waiting i)) was.follower in
          let inside : i < length taken.followed = omega (arith, c.loop-index-test.true, c.min-index-end.ensures, c.count-2.ensures.count) in
          let idle : IsIdle first taken (c.args.cluster.now.first + i) = (i, ap (λ (n : ℕ). n + i) c.requires.first, inside, nothing_waits (waiting_at taken.waiting i) (omega (arith, here, c.waiting.ensures, w.if-waiting-eq0.true))) in
          let pass = ap (λ (s : Inside g.row.B.Denot). s.pass.told) w.self-inside-is in
          record {
            told = subst (λ (ts : List Told). RousesUpTo (i + 1) first taken c.self.inside.pass.told ts) (sym pass)
                (rouses_more i first taken c.self.inside.pass.told c.loop-index.self-inside.pass.told w.fill_block.new.pass.told (c.args.cluster.now.first + i) was.told w.fill_block.ensures idle);
            follower = ap (λ (s : Inside g.row.B.Denot). s.follower) w.self-inside-is ∙ was.follower;
            left = ap (λ (s : Inside g.row.B.Denot). s.left) w.self-inside-is ∙ was.left;
            lost = ap (λ (s : Inside g.row.B.Denot). s.lost) w.self-inside-is ∙ was.lost;
            first = ap (λ (s : Inside g.row.B.Denot). s.first) w.self-inside-is ∙ was.first;
            vnodes = ap (λ (s : Inside g.row.B.Denot). s.vnodes) w.self-inside-is ∙ was.vnodes;
          })
      | else-waiting-eq0 w ↦
          (let was = c.loop-index.invariant in
          let pass = ap (λ (s : Inside g.row.B.Denot). s.pass.told) w.self-inside-is in
          record {
            told = subst (λ (ts : List Told). RousesUpTo (c.loop-index.index + 1) g.B.Spot.first c.self.inside.follower c.self.inside.pass.told ts) (sym pass)
                (rouses_on c.loop-index.index g.B.Spot.first c.self.inside.follower c.self.inside.pass.told c.loop-index.self-inside.pass.told was.told);
            follower = ap (λ (s : Inside g.row.B.Denot). s.follower) w.self-inside-is ∙ was.follower;
            left = ap (λ (s : Inside g.row.B.Denot). s.left) w.self-inside-is ∙ was.left;
            lost = ap (λ (s : Inside g.row.B.Denot). s.lost) w.self-inside-is ∙ was.lost;
            first = ap (λ (s : Inside g.row.B.Denot). s.first) w.self-inside-is ∙ was.first;
            vnodes = ap (λ (s : Inside g.row.B.Denot). s.vnodes) w.self-inside-is ∙ was.vnodes;
          })
    ]

pub invariant_of-self : goal.invariant_of-self
invariant_of-self g c =
    let told = c.loop-index.invariant.told in
    let same = c.loop-index.invariant.follower in
    let first = g.B.Spot.first in
    let n = c.self.inside.vnodes in
    let was = c.self.inside.pass.told in
    let left = c.loop-index.self-inside.left in (
      c.loop-index.invariant.first ∙ c.self.invariant.0,
      ap (λ (t : Taken). t.recent) same ∙ c.self.invariant.1,
      still_own was c.loop-index.self-inside.pass.told c.self.invariant.2 (told.0, told.1, roused_own first c.self.inside.follower told.0 told.2),
      λ lost. subst (λ (m : ℕ). Watches first m c.loop-index.self-inside.pass.told (with_left c.loop-index.self-inside.follower left)) (sym c.loop-index.invariant.vnodes) (watches_still first n was c.loop-index.self-inside.pass.told told.0 (with_left c.loop-index.self-inside.follower left)
          (subst (λ (t : Taken). Watches first n was (with_left t left)) (sym same) (subst (λ (l : Option Left). Watches first n was (with_left c.self.inside.follower l)) (sym c.loop-index.invariant.left) (c.self.invariant.3 (sym c.loop-index.invariant.lost ∙ lost))))
          told.1 (restarts_alone g.B.Spot.first c.self.inside.follower told.0 told.2)),
    )

pub returns-clause-told : goal.returns-clause-told
returns-clause-told g c =
    let few : c.loop-index.index ≤ length c.self.inside.follower.followed = omega (arith, c.loop-index.auto.index-end, c.min-index-end.ensures, c.count-2.ensures.count) in
    let all = rouses_all c.loop-index.index g.B.Spot.first c.self.inside.follower c.self.inside.pass.told c.loop-index.self-inside.pass.told c.loop-index.invariant.told few in
    subst (λ (w : Watched). Rouses g.B.Spot.first w.taken w.told c.loop-index.self-inside.pass.told) c.self.view_is all

pub returns-clause-taken : goal.returns-clause-taken
returns-clause-taken g c = c.loop-index.invariant.follower ∙ ap (λ (w : Watched). w.taken) c.self.view_is
