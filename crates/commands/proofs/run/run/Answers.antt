use Rattle.std.proofs.Common.{List, ℕ, subst}
use Rattle.commands.specs.Run.{ComesTo}
use Rattle.commands.specs.declared.outcome.Outcome.{Outcome}
use Rattle.commands.proofs.Parts.{ran}
use Rattle.commands.proofs.run.run.Goals as goal

pub returns : goal.returns
returns g c =
    let image : List ℕ = c.in_ok-image.image.items in
    let input : List ℕ = c.in_ok-input.field-0.bytes.items in
    let outcome : Outcome = c.outcome_of-outcome.result in
    let came : ComesTo c.args.table.now.listed image input outcome =
    subst (λ xs. ComesTo c.args.table.now.listed image xs outcome) c.deref-2.ensures.value
    (subst (λ xs. ComesTo c.args.table.now.listed xs c.deref-2.result.now outcome) c.deref.ensures.value c.outcome_of-outcome.ensures) in
    ran c.args.table.now.listed (g.F.Files.held c.args.files.now c.args.image.now) (g.F.Files.held c.args.files.now c.args.input.now)
    (g.O.Write.contents c.args.out.now) (g.O.Write.contents c.write.new.self) c.status.result image input outcome
    c.in_ok-image.ensures c.in_ok-input.ensures.bytes came c.in_ok-write.ensures.bytes c.status.ensures
