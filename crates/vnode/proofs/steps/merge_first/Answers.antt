use Rattle.std.proofs.Common.{◌∙◌, ◌↔◌, IsTrue, sym, ap, subst}
use Rattle.key_state.specs.State.{empty, Merges, HaveSameDots}
use Rattle.journal.specs.Limits.{TakesEntry}
use Rattle.vnode.specs.declared.fault.PartFault.TheVariants.{Refused}
use Rattle.vnode.specs.declared.fault.VnodeFault.TheVariants.{NoMemory}
use Rattle.vnode.specs.States.{state_at}
use Rattle.vnode.specs.Parts.{RefusesBroughtAt}
use Rattle.vnode.proofs.FaultLemmas.{passed_on}
use Rattle.vnode.proofs.Lacking.{whole_refused}
use Rattle.vnode.proofs.Knowing.{known_by_test, nothing_by_test}
use Rattle.vnode.proofs.Mapped.{state_at-absent}
use Rattle.vnode.proofs.steps.merge_first.Goals as goal
use Rattle.vnode.proofs.steps.merge_first.Goals.{then-not-is_empty+in_ok-insert, else-not-is_empty}

pub returns-in_err-changed-clause-why : goal.returns-in_err-changed-clause-why
returns-in_err-changed-clause-why c =
    passed_on (RefusesBroughtAt c.args.journal.now.log c.args.part c.args.came.now empty) c.from_residual.result c.in_err-changed.field-0.0 c.from_residual.ensures.1
    (subst (λ s. RefusesBroughtAt c.args.journal.now.log c.args.part c.args.came.now s c.in_err-changed.field-0.0) c.new-state.ensures c.in_err-changed.ensures.why)

pub returns-in_err-insert-clause-why : goal.returns-in_err-insert-clause-why
returns-in_err-insert-clause-why c =
    let told = c.in_ok-changed.ensures in
    passed_on (RefusesBroughtAt c.args.journal.now.log c.args.part c.args.came.now empty) c.from_residual-in_err-insert.result (Refused NoMemory) c.from_residual-in_err-insert.ensures.1
    (subst (λ s. RefusesBroughtAt c.args.journal.now.log c.args.part c.args.came.now s (Refused NoMemory)) c.new-state.ensures
    (whole_refused c.args.journal.now.log c.args.part c.args.came.now c.merge_on.new.came _ NoMemory told.held told.whole (told.takes, subst (λ log. TakesEntry log.entries) told.same told.below)))

pub insert-requires-clause-known : goal.insert-requires-clause-known
insert-requires-clause-known c =
    known_by_test c.merge_on.new.state c.in_ok-changed.ensures.form.0 c.entries.result.now (c.entries.ensures.all ∙ c.clock.ensures) c.is_empty.result c.is_empty.ensures c.if-not-is_empty.true

pub returns-clause-state : goal.returns-clause-state
returns-clause-state c =
    let merges = subst (λ s. Merges s c.merge_on.new.came c.merge_on.new.state) c.new-state.ensures c.in_ok-changed.ensures.state in
    elim c.if-not-is_empty.branch [
      | then-not-is_empty+in_ok-insert w ↦ subst (Merges empty c.merge_on.new.came) (sym w.in_ok-insert.ensures.here ∙ ap (λ s. state_at s c.args.key.now) (sym w.states-is)) merges
      | else-not-is_empty w ↦
          let nothing = nothing_by_test c.merge_on.new.state c.in_ok-changed.ensures.form.0 c.entries.result.now (c.entries.ensures.all ∙ c.clock.ensures) c.is_empty.result c.is_empty.ensures w.if-not-is_empty.false in
          subst (Merges empty c.merge_on.new.came) (nothing ∙ sym (state_at-absent c.args.states.now c.args.key.now c.requires.absent) ∙ ap (λ s. state_at s c.args.key.now) (sym w.states-is)) merges
    ]

pub returns-clause-changed : goal.returns-clause-changed
returns-clause-changed c =
    let told = subst (λ s. IsTrue c.in_ok-changed.changed ↔ (HaveSameDots s c.merge_on.new.state → ⊥)) c.new-state.ensures c.in_ok-changed.ensures.changed in
    elim c.if-not-is_empty.branch [
      | then-not-is_empty+in_ok-insert w ↦ subst (λ s. IsTrue c.in_ok-changed.changed ↔ (HaveSameDots empty s → ⊥)) (sym w.in_ok-insert.ensures.here ∙ ap (λ s. state_at s c.args.key.now) (sym w.states-is)) told
      | else-not-is_empty w ↦
          let nothing = nothing_by_test c.merge_on.new.state c.in_ok-changed.ensures.form.0 c.entries.result.now (c.entries.ensures.all ∙ c.clock.ensures) c.is_empty.result c.is_empty.ensures w.if-not-is_empty.false in
          subst (λ s. IsTrue c.in_ok-changed.changed ↔ (HaveSameDots empty s → ⊥)) (nothing ∙ sym (state_at-absent c.args.states.now c.args.key.now c.requires.absent) ∙ ap (λ s. state_at s c.args.key.now) (sym w.states-is)) told
    ]
