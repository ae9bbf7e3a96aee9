use Rattle.std.proofs.Common.{◌≡◌, ◌<◌, ℕ, List, sym, subst, rules}
use Rattle.dvv.specs.declared.Dot.{Dot}
use Rattle.dvv.specs.Clock.{vnodes_together, IsUnion}
use Rattle.key_state.specs.Merging.{MergesSiblings}
use Rattle.key_state.proofs.Same.{merges_state, counted, same_merges}
use Rattle.key_state.proofs.state.KeyState.merged_with.Goals as goal

pub returns-in-Err-clause-full : goal.returns-in-Err-clause-full
returns-in-Err-clause-full c =
    let e : vnodes_together c.clock-clock.result.now c.clock-other_clock.result.now ≡ vnodes_together c.args.self.now.clock c.args.other.now.clock = counted c.clock-clock.ensures c.clock-other_clock.ensures in
    (λ h. subst (λ (n : ℕ). 1024 < n) e (c.in-Err.ensures.full.0 cc), λ h. let k = c.in-Err.ensures.full.1 (subst (λ (n : ℕ). 1024 < n) (sym e) h) in cc)

pub returns-in_default-clause-full : goal.returns-in_default-clause-full
returns-in_default-clause-full c =
    let e : vnodes_together c.clock-clock.result.now c.clock-other_clock.result.now ≡ vnodes_together c.args.self.now.clock c.args.other.now.clock = counted c.clock-clock.ensures c.clock-other_clock.ensures in
    (λ h. absurd (cc), λ h. let k = c.in-Ok.ensures.full.1 (subst (λ (n : ℕ). 1024 < n) (sym e) h) in absurd (cc))

pub holding-requires-clause-covered : goal.holding-requires-clause-covered
holding-requires-clause-covered c =
    let events : IsUnion c.args.self.now.clock c.args.other.now.clock c.in-Ok.union = subst (λ (l : List Dot). IsUnion l c.args.other.now.clock c.in-Ok.union) c.clock-clock.ensures (subst (λ (l : List Dot). IsUnion c.clock-clock.result.now l c.in-Ok.union) c.clock-other_clock.ensures c.in-Ok.ensures.union) in
    let siblings : MergesSiblings c.args.self.now.siblings c.args.self.now.clock c.args.other.now.siblings c.args.other.now.clock c.in-Ok-merge_siblings.merged.items = same_merges c.siblings-siblings.ensures.all c.clock-clock.ensures c.siblings-others.ensures.all c.clock-other_clock.ensures c.in-Ok-merge_siblings.ensures in
    (merges_state c.args.self.now c.args.other.now c.in-Ok-merge_siblings.merged.items c.in-Ok.union c.siblings-siblings.ensures.state c.siblings-others.ensures.state siblings events c.in-Ok.ensures.clock).covered

pub returns-in_err-holding-clause-full : goal.returns-in_err-holding-clause-full
returns-in_err-holding-clause-full c =
    let e : vnodes_together c.clock-clock.result.now c.clock-other_clock.result.now ≡ vnodes_together c.args.self.now.clock c.args.other.now.clock = counted c.clock-clock.ensures c.clock-other_clock.ensures in
    let fits : 1024 < vnodes_together c.args.self.now.clock c.args.other.now.clock → ⊥ = λ h. let k = c.in-Ok.ensures.full.1 (subst (λ (n : ℕ). 1024 < n) (sym e) h) in cc in
    (search rules, λ h. absurd (fits h))

pub returns-clause-full : goal.returns-clause-full
returns-clause-full c =
    let e : vnodes_together c.clock-clock.result.now c.clock-other_clock.result.now ≡ vnodes_together c.args.self.now.clock c.args.other.now.clock = counted c.clock-clock.ensures c.clock-other_clock.ensures in
    (λ h. absurd (cc), λ h. let k = c.in-Ok.ensures.full.1 (subst (λ (n : ℕ). 1024 < n) (sym e) h) in absurd (cc))
