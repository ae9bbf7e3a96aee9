use Rattle.std.proofs.Common.{◌≡◌, ◌++◌, ℕ, ◌+◌, ◌<◌, List, ap, arith, length, sym, subst, refl, ◌∙◌}
use Rattle.std.specs.List.{flat_map}
use Rattle.journal.specs.Logs.{Log}
use Rattle.cluster_stamps.specs.declared.view.Told.{Told}
use Rattle.cluster_stamps.specs.declared.view.View.{View}
use Rattle.world.specs.Represents.{log_at}
use Rattle.std.specs.Prelude.{IfOk, Result}
use Rattle.cluster_vnode.specs.Gathers.{IsGathered}
use Rattle.audit_faults.specs.declared.fault.WatchFault.{WatchFault}
use Rattle.audit_cluster.specs.Following.{AreFronts, AreNumbered, IsSaidOf, StopsIn, Watched}
use Rattle.audit_cluster.proofs.Ends.{are_fronts, if_any, said_at_end, stopped_in, told_last}
use Rattle.audit_cluster.proofs.Left.{none_left}
use Rattle.audit_cluster.proofs.ending.close_watched.Goals as goal
use Rattle.audit_cluster.proofs.ending.close_watched.Goals.{then-are_numbered, else-are_numbered}

pub say-said-requires-clause-fronts : goal.say-said-requires-clause-fronts
say-said-requires-clause-fronts g c lost none =
    let taken = c.watch.inside.follower in
    let told = c.watch.inside.pass.told in
    let before : List Told = flat_map (λ (p : View). p.told) c.args.passes.items in
    let all : List Told = flat_map (λ (p : View). p.told) c.push.new.self.items in
    let is : all ≡ before ++ told = told_last c.args.passes.items c.push.new.self.items c.watch.inside.pass told c.in_ok-push.ensures.items refl in
    let all_taken = c.why_lost-lost.ensures lost in
    let watches = none_left g.B.Spot.first c.watch.inside.vnodes c.watch.inside.pass.told c.watch.inside.follower c.watch.inside.left (c.watch.invariant.3 all_taken.0) all_taken.1 in
    let logs = c.in-Ok.vnodes.items in
    let lent : c.deref-then-are_numbered.result.now ≡ logs = c.deref-then-are_numbered.ensures.value in
    let size : length c.deref-then-are_numbered.result.now ≡ c.watch.inside.vnodes =
    ap length lent ∙ sym (ap length c.deref.ensures.value) ∙ c.are_numbered.ensures.count c.if-are_numbered.true in
    let fronts : AreFronts taken logs = are_fronts g.B.Spot.first told before all taken logs (watches.has none) is c.in-Ok.ensures.differ c.in-Ok.ensures.stands c.hand_outs_are_a_front.ensures in
    (subst (λ (ls : List Log). AreFronts taken ls) (sym lent) fronts, watches.size none ∙ sym size)

pub say-said-requires-clause-stopped : goal.say-said-requires-clause-stopped
say-said-requires-clause-stopped g c lost fault found =
    let first = g.B.Spot.first in
    let told = c.watch.inside.pass.told in
    let before : List Told = flat_map (λ (p : View). p.told) c.args.passes.items in
    let all : List Told = flat_map (λ (p : View). p.told) c.push.new.self.items in
    let is : all ≡ before ++ told = told_last c.args.passes.items c.push.new.self.items c.watch.inside.pass told c.in_ok-push.ensures.items refl in
    let all_taken = c.why_lost-lost.ensures lost in
    let watches = none_left g.B.Spot.first c.watch.inside.vnodes c.watch.inside.pass.told c.watch.inside.follower c.watch.inside.left (c.watch.invariant.3 all_taken.0) all_taken.1 in
    let logs = c.in-Ok.vnodes.items in
    let n = c.watch.inside.vnodes in
    let size : length logs ≡ n = subst (λ (ls : List Log). length ls ≡ n) c.deref.ensures.value (c.are_numbered.ensures.count c.if-are_numbered.true) in
    let numbers : (i : ℕ) → i < length logs → (log_at logs i).vnode ≡ c.watch.inside.first + i =
    subst (λ (ls : List Log). (i : ℕ) → i < length ls → (log_at ls i).vnode ≡ c.watch.inside.first + i) c.deref.ensures.value (c.are_numbered.ensures.numbers c.if-are_numbered.true) in
    let fronts = c.watch.inside.follower.fronts in
    let stops : StopsIn fronts logs fault = stopped_in first n told before all fronts logs fault (watches.stopped fault found) is c.in-Ok.ensures.differ c.in-Ok.ensures.stands c.hand_outs_are_a_front.ensures size
    (λ i inside. numbers i inside ∙ ap (λ (k : ℕ). k + i) c.watch.invariant.0) in
    subst (λ (ls : List Log). StopsIn fronts ls fault) (sym c.deref-then-are_numbered.ensures.value) stops

pub returns-in-Ok-clause-followed : goal.returns-in-Ok-clause-followed
returns-in-Ok-clause-followed g c none =
    let passes = c.args.passes.items in
    let fronts = c.args.fronts.now in
    let logs = c.in-Ok.vnodes.items in
    let told : List Told = flat_map (λ (p : View). p.told) passes ++ c.args.watch.told in
    let all : List Told = flat_map (λ (p : View). p.told) c.push.new.self.items in
    let is : all ≡ told = told_last passes c.push.new.self.items c.watch.inside.pass c.args.watch.told c.in_ok-push.ensures.items (ap (λ (w : Watched). w.told) c.watch.view_is ∙ c.take_left.ensures.told) in
    let gathered : IsGathered told logs = subst (λ (ts : List Told). IsGathered ts logs) is c.in-Ok.ensures.ok.0 in
    let size : length logs ≡ c.args.cluster.vnodes = (let many = c.in-Ok.ensures.ok.1 in let long = c.in-Ok.vnodes.ok.0 in omega (arith, many, long)) in
    let says = λ (ns : List ℕ) (r : Result (Unit {0}) WatchFault). IsSaidOf ns logs r in
    let said : says fronts c.if-are_numbered.said = elim c.if-are_numbered.branch [
      | then-are_numbered w ↦ subst (λ (r : Result (Unit {0}) WatchFault). says fronts r) (sym w.said-is) (subst (λ (ls : List Log). IsSaidOf fronts ls w.say-said.result) w.deref-then-are_numbered.ensures.value w.say-said.ensures.said)
      | else-are_numbered w ↦ subst (λ (r : Result (Unit {0}) WatchFault). says fronts r) (sym w.said-is) tt
    ] in
    said_at_end told c.args.cluster.vnodes logs c.if-are_numbered.said gathered size (subst (λ (ns : List ℕ). says ns c.if-are_numbered.said) none said)

pub returns-in-Ok-clause-numbered : goal.returns-in-Ok-clause-numbered
returns-in-Ok-clause-numbered g c =
    let logs = c.in-Ok.vnodes.items in
    let first = g.B.Spot.first in
    let says = λ (r : Result (Unit {0}) WatchFault). IfOk r (λ all. AreNumbered first logs) in
    elim c.if-are_numbered.branch [
      | then-are_numbered w ↦
          (let numbers : (i : ℕ) → i < length logs → (log_at logs i).vnode ≡ c.watch.inside.first + i =
          subst (λ (ls : List Log). (i : ℕ) → i < length ls → (log_at ls i).vnode ≡ c.watch.inside.first + i) c.deref.ensures.value (c.are_numbered.ensures.numbers w.if-are_numbered.true) in
          if_any c.if-are_numbered.said (AreNumbered first logs) (λ i inside. numbers i inside ∙ ap (λ (k : ℕ). k + i) c.watch.invariant.0))
      | else-are_numbered w ↦ subst says (sym w.said-is) tt
    ]
