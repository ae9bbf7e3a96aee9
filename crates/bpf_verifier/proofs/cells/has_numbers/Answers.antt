use Rattle.std.proofs.Common.{◌≤◌, ◌*◌, ◌-◌, refl, sym, ap, ◌∙◌, arith}
use Rattle.std.proofs.lemmas.Int.{ints}
use Rattle.bpf_verifier.specs.Cells.{are_numeric, has_numbers}
use Rattle.bpf_verifier.proofs.Touches.{numeric_skip, part_from}
use Rattle.bpf_verifier.proofs.cells.has_numbers.Goals as goal

pub returns-in-Some : goal.returns-in-Some
returns-in-Some c =
    let at = c.min-at.result in
    let ge : 11 ≤ at = omega (arith, c.min-at.ensures, c.first_place.ensures.registers, c.requires.long) in
    c.are_numeric.ensures
    ∙ ap (are_numeric c.in-Some.span (8 * (at - 11))) (part_from at c.args.row.now)
    ∙ sym
    (numeric_skip c.in-Some.span at (8 * (at - 11)) c.args.row.now ge refl
    (λ lt. let before = c.first_place.ensures.before (omega (arith, c.min-at.ensures, lt)) in omega (arith, ints, before, c.min-at.ensures)))
    ∙ ap (has_numbers c.args.row.now) (sym c.in-Some.is)
