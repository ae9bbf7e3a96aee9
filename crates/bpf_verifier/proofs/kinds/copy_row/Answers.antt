use Rattle.std.proofs.Common.{◌++◌, ◌-◌, take, drop, length, ap, sym, ◌∙◌, arith}
use Rattle.std.proofs.lemmas.List.{drop_all, length-drop}
use Rattle.bpf_verifier.proofs.RowSteps.{copied}
use Rattle.bpf_verifier.proofs.kinds.copy_row.Goals as goal

pub returns : goal.returns
returns g c =
    let low = c.args.low in
    let row = c.args.row.now in
    let into = c.args.into.now in
    let first = c.copy_from_slice.new.self in
    let rest = c.copy_from_slice-2.new.self in
    let half = first ++ drop 11 into in
    ap (λ ys. take low half ++ (rest ++ ys)) (drop_all (length half - low) (drop low half) (omega (arith, length-drop low half)))
    ∙ copied low _ row into first rest c.requires.registers (omega (arith, c.told-row, c.requires.short)) (c.told-into ∙ sym c.told-row) (omega (arith, c.told-row)) c.requires.alike c.copy_from_slice.ensures.after c.copy_from_slice-2.ensures.after
