-- What a call leaves of the journals.
use Rattle.std.proofs.Common.{◌≡◌, ℕ, zero, suc, ◌+◌, List, [], ◌∷◌, ◌++◌, ap, ◌∙◌, sym, subst, refl, Option, Some, None, Result, Ok, Err, Bool, true, false, MatchBool, slice_get, slice_set, append_assoc, append-nil, ◌↔◌}
use Rattle.dvv.specs.declared.Dot.{Dot}
use Rattle.key_state.specs.declared.content.Content.{Content}
use Rattle.key_state.specs.declared.content.Key.{Key}
use Rattle.key_state.specs.State.{State}
use Rattle.key_state.specs.Parts.{Partial, whole_of}
use Rattle.journal.specs.Entry.{Entry, Put, Merge, Read}
use Rattle.journal.specs.Journals.{IsJournal, MayFollow}
use Rattle.journal.specs.Logs.{Log, with_entry}
use Rattle.peers.specs.declared.peers.Answer.{Answer}
use Rattle.peers.specs.declared.peers.PartAnswer.{PartAnswer}
use Rattle.peers.specs.declared.peers.PartAnswer.TheVariants.{Merged, Missing}
use Rattle.peers.specs.declared.peers.SummaryAnswer.{SummaryAnswer}
use Rattle.peers.specs.declared.fault.PeerFault.{PeerFault}
use Rattle.peers.specs.declared.fault.PeerFault.TheVariants.{Lost, Refused}
use Rattle.peers.specs.Calls.{Call, PutAt, MergeAt, StateOf, SummaryAt, MergePartAt, KeysOf, Made}
use Rattle.peers.specs.Locals.{fresh_from, PutsIn, MergesIn, ReadsIn, SummarizesIn, MergesPartIn, AtVnode, Does, IsLost, unanswered, is_next, IsUnmade, IsMade, IsUnheard, LocalView, LocalStep}
use Rattle.server_one_thread.specs.Journals.{AreJournals, GoesOn, GoOn}
use Rattle.server_one_thread.proofs.Zips.{one_is, set_there, zip_same, zip_far, zip_set}

pub goes_same : (log : Log) → GoesOn log log
goes_same log = (refl, [], sym (append-nil log.entries))

pub goes_far : (a b c : Log) → GoesOn a b → GoesOn b c → GoesOn a c
goes_far a b c first second = (second.0 ∙ first.0, first.1 ++ second.1, second.2 ∙ ap (λ l. l ++ second.1) first.2 ∙ append_assoc a.entries first.1 second.1)

pub go_same : (logs : List Log) → GoOn logs logs
go_same = zip_same GoesOn goes_same

pub go_far : (a b c : List Log) → GoOn a b → GoOn b c → GoOn a c
go_far = zip_far GoesOn goes_far

pub journal_at : (logs : List Log) (i : ℕ) (log : Log) → slice_get logs i ≡ Some log → AreJournals logs → IsJournal log.vnode log.entries
journal_at [] i log h are = absurd cc
journal_at (x ∷ logs) zero log h are = subst (λ (l : Log). IsJournal l.vnode l.entries) (one_is x log h) are.0
journal_at (x ∷ logs) (suc i) log h are = journal_at logs i log h are.1

set_journals : (logs : List Log) (i : ℕ) (after : Log) → IsJournal after.vnode after.entries → AreJournals logs → AreJournals (slice_set logs i after)
set_journals [] i after is are = tt
set_journals (x ∷ logs) zero after is are = (is, are.1)
set_journals (x ∷ logs) (suc i) after is are = (are.0, set_journals logs i after is are.1)

module _ (none : (vnode : ℕ) → IsJournal vnode []) where
  pub fresh_journals : (id n : ℕ) → AreJournals (fresh_from id n)
  fresh_journals id zero = tt
  fresh_journals id (suc n) = (none id, fresh_journals (id + 1) n)

module _ (more : (vnode : ℕ) (journal : List Entry) (e : Entry) → IsJournal vnode (journal ++ e ∷ []) ↔ (IsJournal vnode journal × MayFollow vnode journal e)) where
  one_more : (log after : Log) (e : Entry) → IsJournal log.vnode log.entries → MayFollow log.vnode log.entries e → after ≡ with_entry log e → IsJournal after.vnode after.entries × GoesOn log after
  one_more log after e legal may is = (
    subst (λ (l : Log). IsJournal l.vnode l.entries) (sym is) ((more log.vnode log.entries e).1 (legal, may)),
    (ap (λ (l : Log). l.vnode) is, e ∷ [], ap (λ (l : Log). l.entries) is),
  )

  not_one : (log after : Log) → IsJournal log.vnode log.entries → after ≡ log → IsJournal after.vnode after.entries × GoesOn log after
  not_one log after legal is = (subst (λ (l : Log). IsJournal l.vnode l.entries) (sym is) legal, subst (λ (l : Log). GoesOn log l) (sym is) (goes_same log))

  module _ (stamp : ℕ) (key : Key) (log after : Log) (legal : IsJournal log.vnode log.entries) where
    put_in : (seen : List Dot) (content : Content) (back : Result Dot PeerFault) → PutsIn stamp key seen content log back after → IsJournal after.vnode after.entries × GoesOn log after
    put_in seen content (Ok dot) h = one_more log after (Put stamp key seen content dot) legal (h.0, h.1) h.2
    put_in seen content (Err Lost) h = absurd h
    put_in seen content (Err (Refused fault)) h = not_one log after legal h.1

    merge_in : (from at : ℕ) (state : State) (back : Result Bool PeerFault) → MergesIn stamp key from at state log back after → IsJournal after.vnode after.entries × GoesOn log after
    merge_in from at state (Ok changed) h = one_more log after (Merge stamp key from at state) legal h.0 h.2
    merge_in from at state (Err Lost) h = absurd h
    merge_in from at state (Err (Refused fault)) h = not_one log after legal h.1

    read_in : (back : Result Answer PeerFault) → ReadsIn stamp key log back after → IsJournal after.vnode after.entries × GoesOn log after
    read_in (Ok answer) h = one_more log after (Read stamp key) legal h.0 h.4
    read_in (Err Lost) h = absurd h
    read_in (Err (Refused fault)) h = not_one log after legal h.1

    summary_in : (back : Result SummaryAnswer PeerFault) → SummarizesIn stamp key log back after → IsJournal after.vnode after.entries × GoesOn log after
    summary_in (Ok answer) h = one_more log after (Read stamp key) legal h.0 h.4
    summary_in (Err Lost) h = absurd h
    summary_in (Err (Refused fault)) h = not_one log after legal h.1

    part_in : (from at : ℕ) (part : Partial) (back : Result PartAnswer PeerFault) → MergesPartIn stamp key from at part log back after → IsJournal after.vnode after.entries × GoesOn log after
    part_in from at part (Ok (Merged changed)) h = merge_in from at (whole_of part h.0) (Ok changed) h.2.1
    part_in from at part (Ok Missing) h = not_one log after legal h.1
    part_in from at part (Err Lost) h = absurd h
    part_in from at part (Err (Refused fault)) h = not_one log after legal h.1

  unchanged : (old new : List Log) → AreJournals old → new ≡ old → AreJournals new × GoOn old new
  unchanged old new are is = (subst AreJournals (sym is) are, subst (λ l. GoOn old l) (sym is) (go_same old))

  at_vnode : (does : Log → Log → Type 0) (lost : Type 0) (found : Option Log) (old : List Log) (i : ℕ) (new : List Log) → slice_get old i ≡ found → AreJournals old
      → ((log after : Log) → IsJournal log.vnode log.entries → does log after → IsJournal after.vnode after.entries × GoesOn log after)
      → AtVnode does lost found old i new → AreJournals new × GoOn old new
  at_vnode does lost None old i new is are one h = unchanged old new are h.1
  at_vnode does lost (Some log) old i new is are one h =
      let left = one log h.0 (journal_at old i log is are) h.1 in
      subst (λ l. AreJournals l × GoOn old l) (sym h.2) (set_journals old i h.0 left.0 are, zip_set GoesOn goes_same old i log h.0 is left.1)

  does_one : (stamp : ℕ) (old : List Log) (call : Call) (new : List Log) → AreJournals old → Does stamp old call new → AreJournals new × GoOn old new
  does_one stamp old (PutAt i key seen content back) new are h = at_vnode (λ log after. PutsIn stamp key seen content log back after) (back ≡ Err Lost) (slice_get old i) old i new refl are (λ log after legal. put_in stamp key log after legal seen content back) h
  does_one stamp old (MergeAt i key from at state back) new are h = at_vnode (λ log after. MergesIn stamp key from at state log back after) (back ≡ Err Lost) (slice_get old i) old i new refl are (λ log after legal. merge_in stamp key log after legal from at state back) h
  does_one stamp old (StateOf i key back) new are h = at_vnode (λ log after. ReadsIn stamp key log back after) (back ≡ Err Lost) (slice_get old i) old i new refl are (λ log after legal. read_in stamp key log after legal back) h
  does_one stamp old (SummaryAt i key back) new are h = at_vnode (λ log after. SummarizesIn stamp key log back after) (back ≡ Err Lost) (slice_get old i) old i new refl are (λ log after legal. summary_in stamp key log after legal back) h
  does_one stamp old (MergePartAt i key from at part back) new are h = at_vnode (λ log after. MergesPartIn stamp key from at part log back after) (back ≡ Err Lost) (slice_get old i) old i new refl are (λ log after legal. part_in stamp key log after legal from at part back) h
  does_one stamp old (KeysOf i back) new are h = unchanged old new are h.1

  pub step_goes : (old : LocalView) (call : Call) (new : LocalView) → AreJournals old.logs → LocalStep old call new → AreJournals new.logs × GoOn old.logs new.logs
  step_goes old call new are step = by_loss (is_next old old.lost) step.happens
    where
      by_hearing : (unheard : Bool) → MatchBool unheard (IsUnheard old call new) (IsMade old call new) → AreJournals new.logs × GoOn old.logs new.logs
      by_hearing true h = does_one old.stamp old.logs h.0 new.logs are h.1.0
      by_hearing false h = does_one old.stamp old.logs call new.logs are h.0

      by_loss : (lost : Bool) → MatchBool lost (IsUnmade old call new) (MatchBool (is_next old old.unheard) (IsUnheard old call new) (IsMade old call new)) → AreJournals new.logs × GoOn old.logs new.logs
      by_loss true h = unchanged old.logs new.logs are h.1
      by_loss false h = by_hearing (is_next old old.unheard) h

  pub made_goes : (old new : LocalView) (calls : List Call) → AreJournals old.logs → Made LocalStep old calls new → AreJournals new.logs × GoOn old.logs new.logs
  made_goes old new [] are made = unchanged old.logs new.logs are (ap (λ (l : LocalView). l.logs) made)
  made_goes old new (call ∷ calls) are made =
      let first = step_goes old call made.0 are made.1 in
      let rest = made_goes made.0 new calls first.0 made.2 in
      (rest.0, go_far old.logs made.0.logs new.logs first.1 rest.1)

-- a call that comes back as lost is lost
unanswered_is_lost : (call made : Call) → call ≡ unanswered made → IsLost call
unanswered_is_lost call made is = subst IsLost (sym is) (is_lost made)
  where
    is_lost : (made : Call) → IsLost (unanswered made)
    is_lost (PutAt i key seen content back) = refl
    is_lost (MergeAt i key from at state back) = refl
    is_lost (StateOf i key back) = refl
    is_lost (SummaryAt i key back) = refl
    is_lost (MergePartAt i key from at part back) = refl
    is_lost (KeysOf i back) = refl

-- a call on one vnode that wasn't lost was made there
pub was_made : (does : Log → Log → Type 0) (old new : LocalView) (i : ℕ) (call : Call) → (IsLost call → ⊥)
    → (Does old.stamp old.logs call new.logs → AtVnode does (IsLost call) (slice_get old.logs i) old.logs i new.logs) → LocalStep old call new
    → (log : Log) × (after : Log) × (slice_get old.logs i ≡ Some log) × does log after × (slice_get new.logs i ≡ Some after)
was_made does old new i call came at step = by_loss (is_next old old.lost) step.happens
  where
    by_log : (found : Option Log) → slice_get old.logs i ≡ found → AtVnode does (IsLost call) found old.logs i new.logs
        → (log : Log) × (after : Log) × (slice_get old.logs i ≡ Some log) × does log after × (slice_get new.logs i ≡ Some after)
    by_log None is h = absurd (came h.0)
    by_log (Some log) is h = (log, h.0, is, h.1, ap (λ l. slice_get l i) h.2 ∙ set_there old.logs i log h.0 is)

    by_hearing : (unheard : Bool) → MatchBool unheard (IsUnheard old call new) (IsMade old call new)
        → (log : Log) × (after : Log) × (slice_get old.logs i ≡ Some log) × does log after × (slice_get new.logs i ≡ Some after)
    by_hearing true h = absurd (came (unanswered_is_lost call h.0 h.2))
    by_hearing false h = by_log (slice_get old.logs i) refl (at h.0)

    by_loss : (lost : Bool) → MatchBool lost (IsUnmade old call new) (MatchBool (is_next old old.unheard) (IsUnheard old call new) (IsMade old call new))
        → (log : Log) × (after : Log) × (slice_get old.logs i ≡ Some log) × does log after × (slice_get new.logs i ≡ Some after)
    by_loss true h = absurd (came h.0)
    by_loss false h = by_hearing (is_next old old.unheard) h
