use Rattle.std.proofs.Common.{◌∙◌, ap, subst, sym}
use Rattle.key_state.specs.State.{State}
use Rattle.journal.specs.declared.entry.Merged.{Merged}
use Rattle.journal.specs.Entry.{Merge}
use Rattle.journal.specs.Answers.{TellsChange}
use Rattle.journal.specs.Logs.{with_entry}
use Rattle.journal.specs.Replay.{IsReplay}
use Rattle.journal.specs.Limits.{TakesEntry, AcceptsMerge}
use Rattle.vnode.specs.declared.fault.PartFault.TheVariants.{Refused}
use Rattle.vnode.specs.declared.fault.VnodeFault.TheVariants.{NoMemory}
use Rattle.vnode.specs.Parts.{RefusesBrought, RefusesBroughtAt, brought}
use Rattle.vnode.specs.States.{Replays, state_at}
use Rattle.vnode.proofs.FaultLemmas.{told_exactly}
use Rattle.vnode.proofs.Lacking.{one_brought, whole_refused}
use Rattle.vnode.proofs.Stepped.{merge_kept, accepts_merge, tells_step}
use Rattle.vnode.proofs.vnode.Vnode.merge_brought.Goals as goal
use Rattle.vnode.proofs.vnode.Vnode.merge_brought.Goals.{After-append}

pub returns-in_err-changed-clause-exact : goal.returns-in_err-changed-clause-exact
returns-in_err-changed-clause-exact c = λ fault other refuses.
    told_exactly c.from_residual.result c.in_err-changed.field-0.0 fault c.from_residual.ensures.1
    (one_brought c.args.self.now c.args.merged.value.key c.args.part c.args.merged.value.state c.in_err-changed.field-0.0 fault
    (subst (λ log. RefusesBrought log c.args.merged.value.key c.args.part c.args.merged.value.state c.in_err-changed.field-0.0) c.self.view_is (
      state_at c.self.inside.states c.args.merged.value.key,
      c.self.invariant.leaves c.args.merged.value.key,
      subst (λ (m : Merged). RefusesBroughtAt c.self.inside.journal.log c.args.part m.state (state_at c.self.inside.states m.key) c.in_err-changed.field-0.0) c.deref_mut.ensures.value c.in_err-changed.ensures.why,
    ))
    refuses)

-- the own state is what the journal leaves
replayed : (c : After-append) → IsReplay c.args.self.now.entries c.args.merged.value.key (state_at c.self.inside.states c.args.merged.value.key)
replayed c = subst (λ log. IsReplay log.entries c.args.merged.value.key (state_at c.self.inside.states c.args.merged.value.key)) c.self.view_is (c.self.invariant.leaves c.args.merged.value.key)

-- the journal takes the entry
takes_entry : (c : After-append) → TakesEntry c.self.inside.journal.log.entries
takes_entry c = subst (λ log. TakesEntry log.entries) c.in_ok-changed.ensures.same c.in_ok-changed.ensures.below

kept : (c : After-append) → Replays c.merge_at.new.states c.append.new.self.log
kept c =
    merge_kept c.self.inside.states c.merge_at.new.states c.self.inside.journal.log c.append.new.self.log c.merge.result c.args.stamp c.deref_mut.result.now.key c.deref_mut.result.now.from c.deref_mut.result.now.at c.merge_at.new.came
    c.self.invariant c.in_ok-changed.ensures.takes (takes_entry c) c.in_ok-changed.ensures.form.1 c.in_ok-changed.ensures.state c.in_ok-changed.ensures.form.0 c.in_ok-changed.ensures.others c.in_ok-changed.ensures.placed
    c.merge.ensures (c.append.ensures.entry ∙ ap (λ log. with_entry log c.merge.result) c.in_ok-changed.ensures.same)

pub invariant_of-self-2 : goal.invariant_of-self-2
invariant_of-self-2 c = kept c

pub returns-clause-legal : goal.returns-clause-legal
returns-clause-legal c = (kept c).legal

pub returns-clause-changed : goal.returns-clause-changed
returns-clause-changed c = (
  state_at c.self.inside.states c.args.merged.value.key,
  replayed c,
  subst (λ log. TellsChange log.entries (Merge c.args.stamp c.args.merged.value.key c.args.merged.value.from c.args.merged.value.at (brought c.args.part c.args.merged.value.state (state_at c.self.inside.states c.args.merged.value.key))) c.args.merged.value.key c.in_ok-changed.changed) c.self.view_is
      (subst (λ (m : Merged). TellsChange c.self.inside.journal.log.entries (Merge c.args.stamp m.key m.from m.at (brought c.args.part m.state (state_at c.self.inside.states m.key))) m.key c.in_ok-changed.changed) c.deref_mut.ensures.value
      (subst (λ (s : State). TellsChange c.self.inside.journal.log.entries (Merge c.args.stamp c.deref_mut.result.now.key c.deref_mut.result.now.from c.deref_mut.result.now.at s) c.deref_mut.result.now.key c.in_ok-changed.changed) c.in_ok-changed.ensures.whole
      (tells_step c.self.inside.states c.merge_at.new.states c.self.inside.journal.log c.args.stamp c.deref_mut.result.now.key c.deref_mut.result.now.from c.deref_mut.result.now.at c.merge_at.new.came c.in_ok-changed.changed
      c.self.invariant c.in_ok-changed.ensures.changed c.in_ok-changed.ensures.state c.in_ok-changed.ensures.form.0))),
)

pub returns-clause-accepts : goal.returns-clause-accepts
returns-clause-accepts c = (
  state_at c.self.inside.states c.args.merged.value.key,
  replayed c,
  subst (λ log. AcceptsMerge log.entries c.args.merged.value.key (brought c.args.part c.args.merged.value.state (state_at c.self.inside.states c.args.merged.value.key))) c.self.view_is
      (subst (λ (m : Merged). AcceptsMerge c.self.inside.journal.log.entries m.key (brought c.args.part m.state (state_at c.self.inside.states m.key))) c.deref_mut.ensures.value
      (subst (λ (s : State). AcceptsMerge c.self.inside.journal.log.entries c.deref_mut.result.now.key s) c.in_ok-changed.ensures.whole
      (accepts_merge c.self.inside.journal.log c.deref_mut.result.now.key c.merge_at.new.came (state_at c.self.inside.states c.deref_mut.result.now.key)
      (c.self.invariant.leaves c.deref_mut.result.now.key) c.in_ok-changed.ensures.takes (takes_entry c) c.in_ok-changed.ensures.form.1))),
)

pub returns-clause-exact : goal.returns-clause-exact
returns-clause-exact c = λ fault other refuses.
    absurd (other (one_brought c.args.self.now c.args.merged.value.key c.args.part c.args.merged.value.state fault (Refused NoMemory) refuses
    (subst (λ log. RefusesBrought log c.args.merged.value.key c.args.part c.args.merged.value.state (Refused NoMemory)) c.self.view_is (
      state_at c.self.inside.states c.args.merged.value.key,
      c.self.invariant.leaves c.args.merged.value.key,
      subst (λ (m : Merged). RefusesBroughtAt c.self.inside.journal.log c.args.part m.state (state_at c.self.inside.states m.key) (Refused NoMemory)) c.deref_mut.ensures.value
          (whole_refused c.self.inside.journal.log c.args.part c.deref_mut.result.now.state c.merge_at.new.came (state_at c.self.inside.states c.deref_mut.result.now.key) NoMemory
          c.in_ok-changed.ensures.held c.in_ok-changed.ensures.whole (c.in_ok-changed.ensures.takes, takes_entry c)),
    ))))

pub returns-clause-was : goal.returns-clause-was
returns-clause-was c =
    subst (IsReplay c.args.self.now.entries c.args.merged.value.key) (sym (c.in_ok-changed.ensures.was ∙ ap (λ (m : Merged). state_at c.self.inside.states m.key) c.deref_mut.ensures.value)) (replayed c)
