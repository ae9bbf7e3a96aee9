use Rattle.std.proofs.Common.{subst, ◌∙◌, refl}
use Rattle.std.specs.Prelude.{All}
use Rattle.std.proofs.lemmas.List.{take_all}
use Rattle.std.proofs.lemmas.List.Elements.{All-more}
use Rattle.bpf_helpers.proofs.Agreement.{Stands, same_sigs}
use Rattle.bpf_helpers.proofs.table.Table.agrees.Goals as goal

pub loop-entry-preserved : goal.loop-entry-preserved
loop-entry-preserved g c =
    let here : Stands c.args.self.now.listed c.entry-item.result = c.lists.ensures.0 c.if-not-lists.false in
    All-more (Stands c.args.self.now.listed) c.entries-entry-items.result.now c.loop-entry.entry-index c.entry-item.result c.loop-entry-test.true c.loop-entry.invariant (subst (Stands c.args.self.now.listed) c.entry-item.is here)

pub returns-clause-agrees : goal.returns-clause-agrees
returns-clause-agrees g c =
    let whole = take_all c.loop-entry.entry-index c.entries-entry-items.result.now c.loop-entry-test.false ∙ c.entries-entry-items.ensures in
    (λ yes. subst (All (Stands c.args.self.now.listed)) whole c.loop-entry.invariant, λ all. refl)

pub returns-clause-same : goal.returns-clause-same
returns-clause-same g c =
    let whole = take_all c.loop-entry.entry-index c.entries-entry-items.result.now c.loop-entry-test.false ∙ c.entries-entry-items.ensures in
    λ yes. same_sigs c.args.self.now.listed c.args.sigs.now (subst (All (Stands c.args.self.now.listed)) whole c.loop-entry.invariant)
