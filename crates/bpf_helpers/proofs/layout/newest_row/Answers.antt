use Rattle.std.proofs.Common.{◌≡◌, ◌<◌, ℕ, Option, arith, subst}
use Rattle.std.specs.Prelude.{MatchOption}
use Rattle.bpf_helpers.specs.declared.layout.Row.{Row}
use Rattle.bpf_helpers.specs.Layout.{row_at}
use Rattle.bpf_helpers.proofs.NewestRows.{IsNewestBelow, newest_is, none_is}
use Rattle.bpf_helpers.proofs.layout.newest_row.Goals as goal

pub returns-in-Some-clause-first : goal.returns-in-Some-clause-first
returns-in-Some-clause-first c =
    let layout = c.args.layout.now in
    let P : Option (ℕ × Row) → Type 0 = λ newest. MatchOption newest ((k : ℕ) → k < c.loop-index.index → (row_at layout k).n ≡ 0) (λ best. IsNewestBelow layout c.loop-index.index best.0 × (best.1 ≡ row_at layout best.0)) in
    let best = subst P c.in-Some.is c.loop-index.invariant in
    let end : c.loop-index.index ≡ c.args.count = omega arith in
    newest_is layout c.args.count c.in-Some.index (subst (λ i. IsNewestBelow layout i c.in-Some.index) end best.0)

pub returns-in-None-clause-first : goal.returns-in-None-clause-first
returns-in-None-clause-first c =
    let layout = c.args.layout.now in
    let P : Option (ℕ × Row) → Type 0 = λ newest. MatchOption newest ((k : ℕ) → k < c.loop-index.index → (row_at layout k).n ≡ 0) (λ best. IsNewestBelow layout c.loop-index.index best.0 × (best.1 ≡ row_at layout best.0)) in
    let none = subst P c.in-None.is c.loop-index.invariant in
    none_is layout c.args.count (λ k below. none k (omega arith))
