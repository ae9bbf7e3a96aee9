-- One vnode more, and what calls keep.
use Rattle.std.proofs.Common.{◌≡◌, ℕ, zero, suc, ◌+◌, List, [], ◌∷◌, ◌++◌, ap, ◌∙◌, sym, subst, arith, length, refl, Option, Some, None, Bool, true, false, MatchBool, if◌then◌else◌, Result, Err, is_ok, slice_get}
use Rattle.std.proofs.lemmas.List.{length-set}
use Rattle.key_state.specs.declared.content.Key.{Key}
use Rattle.key_state.specs.State.{State}
use Rattle.key_state.specs.Parts.{Partial, lacks_some, whole_of}
use Rattle.journal.specs.Entry.{Entry, Merge}
use Rattle.journal.specs.Answers.{TellsChange}
use Rattle.journal.specs.Limits.{AcceptsMerge}
use Rattle.journal.specs.Logs.{Log, with_entry}
use Rattle.journal.specs.Replay.{IsReplay, Leaves}
use Rattle.peers.specs.declared.fault.PeerFault.{PeerFault}
use Rattle.peers.specs.declared.fault.PeerFault.TheVariants.{Lost}
use Rattle.peers.specs.Calls.{Call, PutAt, MergeAt, StateOf, SummaryAt, MergePartAt, KeysOf, Made, is_merged}
use Rattle.peers.specs.Counts.{has_failed}
use Rattle.peers.specs.Locals.{fresh_from, PutsIn, MergesIn, ReadsIn, SummarizesIn, MergesPartIn, MergesWhole, AtVnode, Does, IsLost, has_added, counted, LocalView, LocalStep, IsUnmade, IsMade, IsUnheard, is_next, unanswered}

pub fresh_end : (id n : ℕ) → fresh_from id (suc n) ≡ fresh_from id n ++ (record { vnode = id + n; entries = [] }) ∷ []
fresh_end id zero = ap (λ (v : ℕ). let l : Log = record { vnode = v; entries = [] } in l ∷ []) (omega arith)
fresh_end id (suc n) = let next : (id + 1) + n ≡ id + suc n = omega arith in ap (λ (l : List Log). (record { vnode = id; entries = [] }) ∷ l) (fresh_end (id + 1) n ∙ ap (λ (v : ℕ). fresh_from (id + 1) n ++ (record { vnode = v; entries = [] }) ∷ []) next)

at_keeps : (does : Log → Log → Type 0) (lost : Type 0) (found : Option Log) (old : List Log) (i : ℕ) (new : List Log) → AtVnode does lost found old i new → length new ≡ length old
at_keeps does lost None old i new h = ap length h.1
at_keeps does lost (Some log) old i new h = ap length h.2 ∙ length-set old i h.0

does_keeps : (stamp : ℕ) (old : List Log) (call : Call) (new : List Log) → Does stamp old call new → length new ≡ length old
does_keeps stamp old (PutAt i key seen content back) new h = at_keeps (λ log after. PutsIn stamp key seen content log back after) (back ≡ Err Lost) (slice_get old i) old i new h
does_keeps stamp old (MergeAt i key from at state back) new h = at_keeps (λ log after. MergesIn stamp key from at state log back after) (back ≡ Err Lost) (slice_get old i) old i new h
does_keeps stamp old (StateOf i key back) new h = at_keeps (λ log after. ReadsIn stamp key log back after) (back ≡ Err Lost) (slice_get old i) old i new h
does_keeps stamp old (SummaryAt i key back) new h = at_keeps (λ log after. SummarizesIn stamp key log back after) (back ≡ Err Lost) (slice_get old i) old i new h
does_keeps stamp old (MergePartAt i key from at part back) new h = at_keeps (λ log after. MergesPartIn stamp key from at part log back after) (back ≡ Err Lost) (slice_get old i) old i new h
does_keeps stamp old (KeysOf i back) new h = ap length h.1

made_keeps : (old : LocalView) (call : Call) (new : LocalView) → IsMade old call new → length new.logs ≡ length old.logs
made_keeps old call new h = does_keeps old.stamp old.logs call new.logs h.0

step_keeps : (old : LocalView) (call : Call) (new : LocalView) → LocalStep old call new → length new.logs ≡ length old.logs
step_keeps old call new step = by_loss (is_next old old.lost) step.happens
  where
    by_hearing : (unheard : Bool) → MatchBool unheard (IsUnheard old call new) (IsMade old call new) → length new.logs ≡ length old.logs
    by_hearing true h = made_keeps old h.0 new h.1
    by_hearing false h = made_keeps old call new h

    by_loss : (lost : Bool) → MatchBool lost (IsUnmade old call new) (MatchBool (is_next old old.unheard) (IsUnheard old call new) (IsMade old call new)) → length new.logs ≡ length old.logs
    by_loss true h = ap length h.1
    by_loss false h = by_hearing (is_next old old.unheard) h

pub vnodes_kept : (old new : LocalView) (calls : List Call) → Made LocalStep old calls new → length new.logs ≡ length old.logs
vnodes_kept old new [] made = ap (λ (l : LocalView). length l.logs) made
vnodes_kept old new (call ∷ calls) made = vnodes_kept made.0 new calls made.2 ∙ step_keeps old call made.0 made.1

pub first_kept : (old new : LocalView) (calls : List Call) → Made LocalStep old calls new → new.first ≡ old.first
first_kept old new [] made = ap (λ (l : LocalView). l.first) made
first_kept old new (call ∷ calls) made = first_kept made.0 new calls made.2 ∙ made.1.first

pub fresh_length : (id n : ℕ) → length (fresh_from id n) ≡ n
fresh_length id zero = refl
fresh_length id (suc n) = ap suc (fresh_length (id + 1) n)

-- a call that came back as lost is lost, and adds nothing
lost_again : (call : Call) → IsLost (unanswered call)
lost_again (PutAt i key seen content back) = refl
lost_again (MergeAt i key from at state back) = refl
lost_again (StateOf i key back) = refl
lost_again (SummaryAt i key back) = refl
lost_again (MergePartAt i key from at part back) = refl
lost_again (KeysOf i back) = refl

lost_adds_nothing : (call : Call) → IsLost call → has_added call ≡ false
lost_adds_nothing (PutAt i key seen content back) h = ap is_ok h
lost_adds_nothing (MergeAt i key from at state back) h = ap is_ok h
lost_adds_nothing (StateOf i key back) h = ap is_ok h
lost_adds_nothing (SummaryAt i key back) h = ap is_ok h
lost_adds_nothing (MergePartAt i key from at part back) h = ap is_merged h
lost_adds_nothing (KeysOf i back) h = refl

still_lost : (unheard : Bool) (made : Call) → IsLost made → IsLost (if unheard then unanswered made else made)
still_lost true made h = lost_again made
still_lost false made h = h

-- a call came back from what it came to, or as lost
pub heard : {X : Type 0} (f : Result X PeerFault → Call) → ((back : Result X PeerFault) → unanswered (f back) ≡ f (Err Lost))
    → (unheard : Bool) (back result : Result X PeerFault) → result ≡ (if unheard then Err Lost else back) → f result ≡ (if unheard then unanswered (f back) else f back)
heard f lost true back result is = ap f is ∙ sym (lost back)
heard f lost false back result is = ap f is

-- a call was not made, or made and left these journals
abbrev pub CameTo : LocalView → Call → List Log → Type 0
CameTo old made logs = MatchBool (is_next old old.lost) (IsLost made × (logs ≡ old.logs)) (Does old.stamp old.logs made logs)

pub not_made : (old : LocalView) (made : Call) → is_next old old.lost ≡ true → IsLost made → CameTo old made old.logs
not_made old made next lost = subst (λ (b : Bool). MatchBool b (IsLost made × (old.logs ≡ old.logs)) (Does old.stamp old.logs made old.logs)) (sym next) (lost, refl)

pub was_made : (old : LocalView) (made : Call) (logs : List Log) → is_next old old.lost ≡ false → Does old.stamp old.logs made logs → CameTo old made logs
was_made old made logs next does = subst (λ (b : Bool). MatchBool b (IsLost made × (logs ≡ old.logs)) (Does old.stamp old.logs made logs)) (sym next) does

module _ (made call : Call) (added : Bool) where
  -- what is left once a call was counted
  abbrev pub after : LocalView → LocalView
  after mid = record mid { calls = counted mid.calls; stamp = if added then counted mid.stamp else mid.stamp; failures = if has_failed call then counted mid.failures else mid.failures }

  -- a call that was not made, or came to this, was heard or not and counted
  pub step_of : (old mid new : LocalView) (logs : List Log) → mid ≡ record old { logs = logs } → CameTo old made logs → added ≡ has_added made
      → call ≡ (if is_next mid mid.unheard then unanswered made else made) → new ≡ after mid → LocalStep old call new
  step_of old mid new logs mid_is came adds heard counts = record {
    happens = by_loss (is_next old old.lost) came;
    calls = ap (λ (l : LocalView). l.calls) is;
    lost = ap (λ (l : LocalView). l.lost) is;
    unheard = ap (λ (l : LocalView). l.unheard) is;
    first = ap (λ (l : LocalView). l.first) is;
    count = ap (λ (l : LocalView). l.failures) is;
  }
    where
      is : new ≡ after (record old { logs = logs })
      is = counts ∙ ap after mid_is

      heard_there : call ≡ (if is_next old old.unheard then unanswered made else made)
      heard_there = subst (λ (l : LocalView). call ≡ (if is_next l l.unheard then unanswered made else made)) mid_is heard

      logs_are : new.logs ≡ logs
      logs_are = ap (λ (l : LocalView). l.logs) is

      stamp_is : new.stamp ≡ (if has_added made then counted old.stamp else old.stamp)
      stamp_is = ap (λ (l : LocalView). l.stamp) is ∙ ap (λ (b : Bool). if b then counted old.stamp else old.stamp) adds

      by_hearing : (unheard : Bool) → call ≡ (if unheard then unanswered made else made) → IsMade old made new → MatchBool unheard (IsUnheard old call new) (IsMade old call new)
      by_hearing true heard h = (made, h, heard)
      by_hearing false heard h = subst (λ (c : Call). IsMade old c new) (sym heard) h

      by_loss : (lost : Bool) → MatchBool lost (IsLost made × (logs ≡ old.logs)) (Does old.stamp old.logs made logs)
          → MatchBool lost (IsUnmade old call new) (MatchBool (is_next old old.unheard) (IsUnheard old call new) (IsMade old call new))
      by_loss true h = (
        subst IsLost (sym heard_there) (still_lost (is_next old old.unheard) made h.0),
        logs_are ∙ h.1,
        stamp_is ∙ ap (λ (b : Bool). if b then counted old.stamp else old.stamp) (lost_adds_nothing made h.0),
      )
      by_loss false h = by_hearing (is_next old old.unheard) heard_there (subst (λ (l : List Log). Does old.stamp old.logs made l) (sym logs_are) h, stamp_is)

-- what a journal leaves at a key is one state, of which all this is said
module _ (one : (journal : List Entry) (k : Key) (a b : State) → IsReplay journal k a → IsReplay journal k b → a ≡ b) where
  pub merges_whole : (stamp : ℕ) (key : Key) (from at : ℕ) (part : Partial) (old new : Log) (changed : Bool) → Leaves old.entries key (λ own. lacks_some own part ≡ false)
      → Leaves old.entries key (λ own. TellsChange old.entries (Merge stamp key from at (whole_of part own)) key changed)
      → Leaves old.entries key (λ own. new ≡ with_entry old (Merge stamp key from at (whole_of part own)))
      → Leaves old.entries key (λ own. AcceptsMerge old.entries key (whole_of part own)) → MergesWhole stamp key from at part old changed new
  merges_whole stamp key from at part old new changed held told entry accepts = (
    held.0,
    held.1,
    (
      held.2,
      (
        here (λ own. AcceptsMerge old.entries key (whole_of part own)) accepts,
        here (λ own. TellsChange old.entries (Merge stamp key from at (whole_of part own)) key changed) told,
        here (λ own. new ≡ with_entry old (Merge stamp key from at (whole_of part own))) entry,
      ),
    ),
  )
    where
      here : (P : State → Type 0) → Leaves old.entries key P → P held.0
      here P l = subst P (one old.entries key l.0 held.0 l.1 held.1) l.2
