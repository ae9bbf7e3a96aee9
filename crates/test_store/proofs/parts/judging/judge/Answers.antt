use Rattle.std.proofs.Common.{rules, ◌≡◌, ◌≢◌, ◌∙◌, ℕ, ◌<◌, List, [], ◌∷◌, ◌++◌, length, sym, subst}
use Rattle.journal.specs.Journals.{IsJournal}
use Rattle.journal.specs.Logs.{Log}
use Rattle.world.specs.Represents.{AreDistinct, log_at}
use Rattle.audit_replay.specs.Interleaved.{ids_of}
use Rattle.audit_replay.specs.Rerun.{AreLegal}
use Rattle.test_store.proofs.Judged.{distinct_more, legal_more}
use Rattle.test_store.proofs.parts.judging.judge.Goals as goal

pub loop-vnode-preserved : goal.loop-vnode-preserved
loop-vnode-preserved c =
    let logs = c.loop-vnode.journals.items in
    let log = c.in-Some.journal in
    let pushed : c.push.new.self.items ≡ logs ++ log ∷ [] = c.in_ok-push.ensures.items in
    let whole : log ≡ c.journal.result.now.log = c.in-Some.ensures.1 in
    let legal : IsJournal log.vnode log.entries = subst (λ (l : Log). IsJournal l.vnode l.entries) (sym (whole ∙ c.journal.ensures.journal)) c.journal.ensures.legal in
    let told : (i : ℕ) → i < length c.deref.result.now → (log_at c.deref.result.now i).vnode ≢ c.vnode.result = search (rules) in
    let new : (i : ℕ) → i < length logs → (log_at logs i).vnode ≢ log.vnode = subst (λ (v : ℕ). (i : ℕ) → i < length logs → (log_at logs i).vnode ≢ v) c.vnode.ensures (subst (λ js. (i : ℕ) → i < length js → (log_at js i).vnode ≢ c.vnode.result) c.deref.ensures.value told) in
    record {
      distinct = subst (λ (ls : List Log). AreDistinct (ids_of ls)) (sym pushed) (distinct_more logs log c.loop-vnode.invariant.distinct new);
      legal = subst (λ (ls : List Log). AreLegal ls) (sym pushed) (legal_more logs log c.loop-vnode.invariant.legal legal);
    }
