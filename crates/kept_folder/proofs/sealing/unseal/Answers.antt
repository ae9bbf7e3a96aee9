use Rattle.std.proofs.Common.{◌-◌, ap, sym, ◌∙◌, arith, length, take, true≢false}
use Rattle.std.proofs.lemmas.Bool.Decides.{Decides-eqb}
use Rattle.std.proofs.lemmas.Slice.Eq.{slice_eq-Decides}
use Rattle.kept_folder.specs.Seals.{sealed}
use Rattle.kept_folder.proofs.Seals.{length-sealed, take-sealed}
use Rattle.kept_folder.proofs.sealing.unseal.Goals as goal

pub returns-in_default-clause-none : goal.returns-in_default-clause-none
returns-in_default-clause-none c = λ requests e. c.in_default.ensures (let size = ap length e ∙ length-sealed requests in omega (arith, size))

pub returns-else-eq-clause-none : goal.returns-else-eq-clause-none
returns-else-eq-clause-none c = λ requests e.
    let size = ap length e ∙ length-sealed requests in
    let front = c.split_at.ensures.front ∙ ap (λ n. take n c.args.file.now) c.in-Some.ensures.1 ∙ ap (λ l. take (length l - 41) l) e ∙ take-sealed requests in
    let same = c.as_slice.ensures.value ∙ c.in_ok-seal.ensures ∙ ap sealed front ∙ sym e in
    true≢false (sym ((slice_eq-Decides Decides-eqb c.as_slice.result.now c.args.file.now c.eq.result c.eq.ensures).1 same) ∙ c.if-eq.false)
