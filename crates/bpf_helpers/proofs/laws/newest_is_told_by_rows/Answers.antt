use Rattle.std.proofs.Common.{ℕ, ap, List}
use Rattle.std.specs.Prelude.{position, unwrap_or}
use Rattle.bpf_helpers.specs.declared.layout.Row.{Row}
use Rattle.bpf_helpers.specs.Layout.{is_newest}
use Rattle.bpf_helpers.proofs.LaidRows.{laid}
use Rattle.bpf_helpers.proofs.laws.newest_is_told_by_rows.Goals as goal

pub returns : goal.returns
returns c = λ window rows out small few.
    let told : List Row → ℕ = λ rs. unwrap_or (position (is_newest rs) rs) 64 in
    ap told (laid window rows out small few)
