use Rattle.std.proofs.Common.{◌≡◌, ℕ, List, length, arith, ap, sym, subst, ◌∙◌}
use Rattle.std.specs.Prelude.{All, None}
use Rattle.std.proofs.lemmas.List.Elements.{All-nil}
use Rattle.cluster_stamps.specs.declared.view.Told.{Told}
use Rattle.cluster_stamps.specs.declared.view.View.{View}
use Rattle.audit_cluster.specs.Following.{IsOfWatch, with_left}
use Rattle.audit_cluster.proofs.Taken.{AreNumbered, followed_long, last_untold, nothing_taken, watches_none}
use Rattle.audit_cluster.proofs.watch.Watch.new.Goals as goal

pub invariant_of-result-2 : goal.invariant_of-result-2
invariant_of-result-2 g c =
    let ids = c.deref.result.now in
    let lent : c.loop-index.ids.items ≡ ids = sym c.deref.ensures.value in
    let are : AreNumbered g.B.Spot.first ids = subst (λ (n : ℕ). AreNumbered n ids) c.requires.first (subst (λ (xs : List ℕ). AreNumbered c.args.first xs) lent c.loop-index.invariant.numbered) in
    let many : length ids ≡ c.args.vnodes = (let same = ap length lent in let long = c.loop-index.invariant.long in omega (arith, same, long, c.loop-index.auto.index-end, c.loop-index-test.false)) in
    let untold = ap (λ (v : View). v.told) c.pass.view_is ∙ last_untold c.args.passes.now.items c.pop.new.self.items c.in-Some.pass c.requires.fresh c.in-Some.ensures.items in
    let taken = c.in_ok-new.field-0 in (
      c.requires.first,
      c.in_ok-new.ensures.recent,
      subst (λ (ts : List Told). All IsOfWatch ts) (sym untold) (All-nil IsOfWatch),
      λ lost. watches_none g.B.Spot.first c.args.vnodes _ (with_left taken None) c.in_ok-new.ensures.fault (followed_long ids (with_left taken None) c.in_ok-new.ensures.followed ∙ many)
          (nothing_taken g.B.Spot.first _ ids (with_left taken None) are untold c.in_ok-new.ensures.followed c.in_ok-new.ensures.waiting),
    )

pub returns-clause-told : goal.returns-clause-told
returns-clause-told g c = ap (λ (v : View). v.told) c.pass.view_is ∙ last_untold c.args.passes.now.items c.pop.new.self.items c.in-Some.pass c.requires.fresh c.in-Some.ensures.items
