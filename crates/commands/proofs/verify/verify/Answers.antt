use Rattle.std.proofs.Common.{List, ℕ, subst}
use Rattle.commands.specs.Verdict.{IsVerdict}
use Rattle.commands.specs.declared.verify.Verdict.{Verdict}
use Rattle.commands.proofs.Parts.{judged}
use Rattle.commands.proofs.verify.verify.Goals as goal

pub returns : goal.returns
returns g c =
    let image : List ℕ = c.in_ok-image.image.items in
    let verdict : Verdict = c.verdict_on-verdict.result in
    let is : IsVerdict c.args.table.now.listed image verdict =
    subst (λ xs. IsVerdict c.args.table.now.listed xs verdict) c.deref.ensures.value c.verdict_on-verdict.ensures in
    judged c.args.table.now.listed (g.F.Files.held c.args.files.now c.args.image.now)
    (g.O.Write.contents c.args.out.now) (g.O.Write.contents c.write.new.self) c.status.result image verdict
    c.in_ok-image.ensures is c.in_ok-write.ensures.bytes c.status.ensures
