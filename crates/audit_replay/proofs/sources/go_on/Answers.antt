use Rattle.std.proofs.Common.{◌≡◌, List, set, sym, subst, ℕ, ◌+◌, Some}
use Rattle.std.specs.Prelude.{slice_get}
use Rattle.world.specs.Represents.{log_at}
use Rattle.journal.specs.Logs.{Log}
use Rattle.audit_faults.specs.Codes.{IsOneOf, IsOfSource}
use Rattle.audit_faults.specs.declared.fault.AuditFault.{AuditFault}
use Rattle.audit_replay.specs.Faulty.{IsFault}
use Rattle.audit_replay.specs.Fronts.{HasRun}
use Rattle.audit_replay.specs.Interleaved.{IsInterleaving}
use Rattle.audit_replay.specs.Turns.{EntryIn, count_at}
use Rattle.audit_replay.specs.Wrong.{IsFounded, IsToldOf}
use Rattle.audit_replay.proofs.Fronts.{ran_more, read_of, told_fault}
use Rattle.audit_replay.proofs.Opening.{passed}
use Rattle.audit_replay.proofs.Sorting.{with_next}
use Rattle.audit_replay.proofs.sources.go_on.Goals as goal

pub returns-clause-run : goal.returns-clause-run
returns-clause-run c =
    let logs = c.args.journals.now in
    let counts = c.args.counts.now in
    let now = c.args.rerun.now.logs in
    let head = c.args.head in
    let e = c.in-Some.entry.now in
    let next = c.requires.next in
    let there : EntryIn logs head.index (count_at counts head.index) e = (next.0, subst (λ (p : ℕ). slice_get (log_at logs head.index).entries p ≡ Some e) c.requires.place (sym c.in-Some.ensures)) in
    let gone = c.in_ok-go_on_lent.ensures in
    subst (λ (p : ℕ). HasRun logs (set counts head.index (p + 1)) c.go_on_lent.new.self.logs) (sym c.requires.place)
    (subst (λ (after : List Log). HasRun logs (with_next counts head.index) after) (sym gone.next)
    (ran_more logs counts now head e c.requires.distinct c.requires.rising c.requires.run next there gone.right.0
    (read_of now head.index e (subst (λ (ns : List ℕ). IsFounded ns now head.index e) c.requires.fronts gone.right.1)) (subst (λ (after : List Log). IsInterleaving after) gone.next (gone.run.whole c.requires.fronts))))

pub returns-in_err-go_on_lent-clause-err : goal.returns-in_err-go_on_lent-clause-err
returns-in_err-go_on_lent-clause-err c =
    let logs = c.args.journals.now in
    let counts = c.args.counts.now in
    let now = c.args.rerun.now in
    let head = c.args.head in
    let e = c.in-Some.entry.now in
    let fault = c.in_err-go_on_lent.field-0.0 in
    let there : EntryIn logs head.index (count_at counts head.index) e = (c.requires.next.0, subst (λ (p : ℕ). slice_get (log_at logs head.index).entries p ≡ Some e) c.requires.place (sym c.in-Some.ensures)) in
    let told = subst (λ (ns : List ℕ). IsToldOf ns now.logs now.recent head.index e fault) c.requires.fronts c.in_err-go_on_lent.ensures.told in
    passed c.from_residual.result _ (λ (f : AuditFault). IsFault logs f) c.from_residual.ensures.1
    (told_fault logs counts now.logs now.recent head e fault c.requires.distinct c.requires.rising c.requires.single c.requires.legal c.requires.all c.requires.run c.requires.next there told).0

pub returns-in_err-go_on_lent-clause-codes : goal.returns-in_err-go_on_lent-clause-codes
returns-in_err-go_on_lent-clause-codes c =
    let logs = c.args.journals.now in
    let counts = c.args.counts.now in
    let now = c.args.rerun.now in
    let head = c.args.head in
    let e = c.in-Some.entry.now in
    let fault = c.in_err-go_on_lent.field-0.0 in
    let there : EntryIn logs head.index (count_at counts head.index) e = (c.requires.next.0, subst (λ (p : ℕ). slice_get (log_at logs head.index).entries p ≡ Some e) c.requires.place (sym c.in-Some.ensures)) in
    let told = subst (λ (ns : List ℕ). IsToldOf ns now.logs now.recent head.index e fault) c.requires.fronts c.in_err-go_on_lent.ensures.told in
    passed c.from_residual.result _ (λ (f : AuditFault). IsOneOf IsOfSource f) c.from_residual.ensures.1
    (told_fault logs counts now.logs now.recent head e fault c.requires.distinct c.requires.rising c.requires.single c.requires.legal c.requires.all c.requires.run c.requires.next there told).1
