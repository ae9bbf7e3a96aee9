use Rattle.std.proofs.Common.{◌≡◌, ℕ, ◌<◌}
use Rattle.std.specs.Prelude.{MatchOption}
use Rattle.bpf_helpers.specs.Layout.{row_at}
use Rattle.bpf_helpers.proofs.NewestRows.{IsNewestBelow}
use Rattle.bpf_helpers.proofs.layout.newest_row.Given as goal

abbrev pub invariant-loop-index : goal.invariant-loop-index
invariant-loop-index l =
    MatchOption l.newest ((k : ℕ) → k < l.index → (row_at l.layout k).n ≡ 0) (λ best. IsNewestBelow l.layout l.index best.0 × (best.1 ≡ row_at l.layout best.0))
