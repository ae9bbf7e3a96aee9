use Rattle.std.proofs.Common.{◌≡◌, ◌∙◌, arith, ap, ℕ, ◌<◌, List, [], ◌∷◌, ◌++◌, Some, length, get_or, refl, set, sym, subst, inr}
use Rattle.journal.specs.Answers.{Answers}
use Rattle.journal.specs.Journals.{MayFollow}
use Rattle.journal.specs.Logs.{Log, with_entry}
use Rattle.world.specs.Represents.{log_at, with_entry_at}
use Rattle.audit_replay.proofs.Sorting.{same_default}
use Rattle.std.specs.Prelude.{Err}
use Rattle.audit_replay.specs.declared.again.Refusal.{Refusal}
use Rattle.audit_replay.specs.declared.kept.Kept.{Kept}
use Rattle.audit_replay.specs.Followed.{HasFollowed, IsToKeep}
use Rattle.audit_replay.specs.Kept.{IsLeft}
use Rattle.audit_replay.specs.Wrong.{IsNewest, IsToldOf}
use Rattle.audit_faults.specs.declared.fault.AuditFault.{AuditFault}
use Rattle.audit_faults.specs.declared.fault.AuditFault.TheVariants.{NoMemory}
use Rattle.audit_replay.proofs.Going.{followed_more, next_kept}
use Rattle.audit_replay.proofs.Opening.{passed, on_any_err}
use Rattle.audit_replay.proofs.Telling.{illegal_told, lacked, newest_more}
use Rattle.audit_replay.proofs.Staying.{one_more_at}
use Rattle.audit_replay.proofs.followed.Followed.step.Goals as goal

pub returns-clause-run : goal.returns-clause-run
returns-clause-run c =
    let logs = c.args.self.now.vnodes.items in
    let answers = c.args.self.now.answers.items in
    let last = c.args.self.now.last in
    let recent = c.args.self.now.recent in
    let i = c.args.index in
    let e = c.args.entry in
    let told = c.in-Ok.ensures.answer in
    let a = told.0 in
    let run = c.requires.run in
    let inside : i < length logs = c.requires.inside in
    let also : i < length answers = omega (arith, c.requires.inside, run.kept.size) in
    let vnode : c.index_mut.result.now ≡ log_at logs i = c.index_mut.ensures.value ∙ same_default logs i c.index_mut.result.now (record { vnode = 0; entries = [] }) inside in
    let list : c.index_mut-2.result.now ≡ get_or answers i [] = c.index_mut-2.ensures.value ∙ same_default answers i c.index_mut-2.result.now [] also in
    let follows : MayFollow (log_at logs i).vnode (log_at logs i).entries e = subst (λ (l : Log). MayFollow l.vnode l.entries e) vnode c.in-Ok.ensures.legal in
    let answer : Answers (log_at logs i).vnode (log_at logs i).entries e a = subst (λ (l : Log). Answers l.vnode l.entries e a) vnode told.1 in
    let lack : IsLeft recent (get_or answers i [] ++ c.kept_behind-kept.result ∷ []) c.keep.new.self = subst (λ (xs : List Kept). IsLeft recent (xs ++ c.kept_behind-kept.result ∷ []) c.keep.new.self) list c.in_ok-keep.ensures in
    let vnodes : c.happen.new.vnode ≡ with_entry (log_at logs i) e = c.in-Ok.ensures.entry ∙ ap (λ (l : Log). with_entry l e) vnode in
    let to_keep : IsToKeep (log_at logs i).entries e c.in-Ok.kept = subst (λ (l : Log). IsToKeep l.entries e c.in-Ok.kept) vnode c.in-Ok.ensures.kept in
    let next = next_kept c.args.self.now.fronts.items logs i e c.is_in_front-is_in_front.result c.in-Ok.kept c.kept_behind-kept.result c.is_in_front-is_in_front.ensures c.kept_behind-kept.ensures to_keep in
    subst (λ (l : Log). HasFollowed c.args.self.now.fronts.items (set logs i l) (Some c.stamp-stamp.result) recent (set answers i c.keep.new.self)) (sym vnodes)
    (subst (λ (s : ℕ). HasFollowed c.args.self.now.fronts.items (with_entry_at logs i e) (Some s) recent (set answers i c.keep.new.self)) (sym c.stamp-stamp.ensures)
    (followed_more c.args.self.now.fronts.items logs last recent answers i e a c.kept_behind-kept.result c.keep.new.self run inside follows answer c.requires.above c.requires.place next lack))

pub returns-clause-newest : goal.returns-clause-newest
returns-clause-newest c =
    let logs = c.args.self.now.vnodes.items in
    let i = c.args.index in
    let e = c.args.entry in
    let inside : i < length logs = c.requires.inside in
    let vnode : c.index_mut.result.now ≡ log_at logs i = c.index_mut.ensures.value ∙ same_default logs i c.index_mut.result.now (record { vnode = 0; entries = [] }) inside in
    let vnodes : c.happen.new.vnode ≡ with_entry (log_at logs i) e = c.in-Ok.ensures.entry ∙ ap (λ (l : Log). with_entry l e) vnode in
    subst (λ (l : Log). IsNewest (set logs i l) (Some c.stamp-stamp.result) i) (sym vnodes) (subst (λ (s : ℕ). IsNewest (with_entry_at logs i e) (Some s) i) (sym c.stamp-stamp.ensures) (newest_more logs i e inside))

pub returns-in-Err-NoMemory-clause-told : goal.returns-in-Err-NoMemory-clause-told
returns-in-Err-NoMemory-clause-told c =
    let own = c.args.self.now in
    lacked own.fronts.items own.vnodes.items own.last own.recent own.answers.items c.args.index c.args.entry c.requires.run c.requires.above c.requires.place

pub returns-in_err-keep-clause-told : goal.returns-in_err-keep-clause-told
returns-in_err-keep-clause-told c =
    let own = c.args.self.now in
    passed c.from_residual.result NoMemory (λ (fault : AuditFault). IsToldOf own.fronts.items own.vnodes.items own.recent c.args.index c.args.entry fault) c.from_residual.ensures.1
    (lacked own.fronts.items own.vnodes.items own.last own.recent own.answers.items c.args.index c.args.entry c.requires.run c.requires.above c.requires.place)

pub returns-in-Err-Illegal-clause-told : goal.returns-in-Err-Illegal-clause-told
returns-in-Err-Illegal-clause-told c =
    let own = c.args.self.now in
    let logs = own.vnodes.items in
    let i = c.args.index in
    let e = c.args.entry in
    let vnode : c.index_mut.result.now ≡ log_at logs i = c.index_mut.ensures.value ∙ same_default logs i c.index_mut.result.now (record { vnode = 0; entries = [] }) c.requires.inside in
    illegal_told own.fronts.items logs own.recent i (log_at logs i).vnode (length (log_at logs i).entries) e c.fault_at-illegal.result c.fault_at-illegal.ensures refl refl
    (λ follows. c.happen.ensures.illegal (subst (λ (r : Refusal). c.happen.result ≡ Err r) c.in-Err-Illegal.field-0-is c.in-Err-Illegal.is) (subst (λ (l : Log). MayFollow l.vnode l.entries e) (sym vnode) follows))
    (lacked own.fronts.items logs own.last own.recent own.answers.items i e c.requires.run c.requires.above c.requires.place)

pub returns-in-Err-Illegal-clause-stays : goal.returns-in-Err-Illegal-clause-stays
returns-in-Err-Illegal-clause-stays c =
    let logs = c.args.self.now.vnodes.items in
    let i = c.args.index in
    let vnode : c.index_mut.result.now ≡ log_at logs i = c.index_mut.ensures.value ∙ same_default logs i c.index_mut.result.now (record { vnode = 0; entries = [] }) c.requires.inside in
    one_more_at logs i c.index_mut.result.now c.happen.new.vnode c.requires.inside vnode c.in-Err-Illegal.ensures.stays

pub returns-in-Err-NoMemory-clause-stays : goal.returns-in-Err-NoMemory-clause-stays
returns-in-Err-NoMemory-clause-stays c =
    let logs = c.args.self.now.vnodes.items in
    let i = c.args.index in
    let vnode : c.index_mut.result.now ≡ log_at logs i = c.index_mut.ensures.value ∙ same_default logs i c.index_mut.result.now (record { vnode = 0; entries = [] }) c.requires.inside in
    one_more_at logs i c.index_mut.result.now c.happen.new.vnode c.requires.inside vnode c.in-Err-NoMemory.ensures.stays

pub returns-in_err-keep-clause-stays : goal.returns-in_err-keep-clause-stays
returns-in_err-keep-clause-stays c =
    let logs = c.args.self.now.vnodes.items in
    let i = c.args.index in
    let e = c.args.entry in
    let vnode : c.index_mut.result.now ≡ log_at logs i = c.index_mut.ensures.value ∙ same_default logs i c.index_mut.result.now (record { vnode = 0; entries = [] }) c.requires.inside in
    on_any_err c.from_residual.result _ (one_more_at logs i c.index_mut.result.now c.happen.new.vnode c.requires.inside vnode (inr (e, c.in-Ok.ensures.entry)))
