use Rattle.std.proofs.Common.{ℕ, IfOk, Result, Err, sym, ap, subst}
use Rattle.key_state.specs.declared.content.Key.{Key}
use Rattle.key_state.specs.Parts.{Partial, whole_of}
use Rattle.journal.specs.Answers.{TellsChange}
use Rattle.journal.specs.Entry.{Merge}
use Rattle.journal.specs.Logs.{Log}
use Rattle.journal.specs.Replay.{Leaves}
use Rattle.vnode.specs.declared.answers.MergeAnswer.{MergeAnswer}
use Rattle.vnode.specs.declared.fault.PartFault.{PartFault}
use Rattle.vnode.specs.Parts.{RefusesPart}
use Rattle.vnode.proofs.vnode.Vnode.merge_part_lent.Goals as goal

-- what is told of a part's merge
abbrev Told : Log → Result MergeAnswer PartFault → ℕ → Key → ℕ → ℕ → Partial → Type 0
Told log result stamp key from at part = IfOk result (λ merge. Leaves log.entries key (λ own. TellsChange log.entries (Merge stamp key from at (whole_of part own)) key merge.changed))

pub returns-in-Ok-clause-changed : goal.returns-in-Ok-clause-changed
returns-in-Ok-clause-changed c =
    let merged = c.in-Ok.merged.value in
    let same = c.in-Ok.ensures in
    let told : Told c.args.self.now c.merge_part.result c.args.stamp merged.key merged.from merged.at c.in-Ok.prepared = c.merge_part.ensures.changed in
    subst (λ (p : Partial). Told c.args.self.now c.merge_part.result c.args.stamp c.args.key.now c.args.from c.args.at p) same.3
    (subst (λ (n : ℕ). Told c.args.self.now c.merge_part.result c.args.stamp c.args.key.now c.args.from n c.in-Ok.prepared) same.2
    (subst (λ (n : ℕ). Told c.args.self.now c.merge_part.result c.args.stamp c.args.key.now n merged.at c.in-Ok.prepared) same.1
    (subst (λ (k : Key). Told c.args.self.now c.merge_part.result c.args.stamp k merged.from merged.at c.in-Ok.prepared) same.0 told)))

pub returns-in-Ok-clause-exact : goal.returns-in-Ok-clause-exact
returns-in-Ok-clause-exact c = λ fault other refuses.
    c.merge_part.ensures.exact fault other
    (subst (λ (k : Key). RefusesPart c.args.self.now k c.in-Ok.prepared fault) (sym c.in-Ok.ensures.0) (subst (λ (p : Partial). RefusesPart c.args.self.now c.args.key.now p fault) (sym c.in-Ok.ensures.3) refuses))

pub returns-in-Err-clause-exact : goal.returns-in-Err-clause-exact
returns-in-Err-clause-exact c = λ fault other refuses. ap (λ f. Err f) (c.part_refusal.ensures.exact fault refuses)
