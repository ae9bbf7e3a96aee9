use Rattle.std.proofs.Common.{List, ℕ, subst}
use Rattle.std.specs.Io.KnownBytes.{Appends}
use Rattle.bpf_admission.specs.declared.refusal.Refusal.{Refusal}
use Rattle.bpf_admission.specs.declared.refusal.Refusal.TheVariants as refusal
use Rattle.bpf_explain.specs.Explained.{IsExplained, IsUnexplained}
use Rattle.bpf_explain.specs.declared.explanation.Explanation.{Explanation}
use Rattle.commands.proofs.Parts.{explained_by, unexplained_told}
use Rattle.commands.proofs.explained.explain.Goals as goal

pub returns-in-Err : goal.returns-in-Err
returns-in-Err g c =
    let image : List ℕ = c.in_ok-image.image.items in
    let why : Refusal = c.in-Err.refusal in
    unexplained_told c.args.table.now.listed (g.F.Files.held c.args.files.now c.args.image.now)
    (g.O.Write.contents c.args.out.now) (g.O.Write.contents c.refuse.new.out) c.refuse.result image why
    c.in_ok-image.ensures (subst (λ xs. IsUnexplained xs why) c.deref.ensures.value c.in-Err.ensures.unexplained) c.refuse.ensures.told c.refuse.ensures.status

pub returns-in_default : goal.returns-in_default
returns-in_default g c =
    let image : List ℕ = c.in_ok-image.image.items in
    unexplained_told c.args.table.now.listed (g.F.Files.held c.args.files.now c.args.image.now)
    (g.O.Write.contents c.args.out.now) (g.O.Write.contents c.refuse-in_default.new.out) c.refuse-in_default.result image refusal.NoMemory
    c.in_ok-image.ensures tt c.refuse-in_default.ensures.told c.refuse-in_default.ensures.status

pub returns : goal.returns
returns g c =
    let image : List ℕ = c.in_ok-image.image.items in
    let explanation : Explanation = c.in-Ok.explanation in
    let before = g.O.Write.contents c.args.out.now in
    let after = g.O.Write.contents c.write.new.self in
    explained_by c.args.table.now.listed (g.F.Files.held c.args.files.now c.args.image.now) before after c.status_of.result image explanation
    c.in_ok-image.ensures (subst (λ xs. IsExplained xs c.args.table.now.listed explanation) c.deref.ensures.value c.in-Ok.ensures.explained)
    (subst (λ bytes. Appends before after bytes) c.in-Ok-text_of.ensures c.in_ok-write.ensures.bytes) c.status_of.ensures
