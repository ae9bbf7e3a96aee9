-- Logs are named by their identifiers alone, so that what happened stays so while they grow.
use Rattle.std.proofs.Common.{◌≡◌, ◌==◌, if◌then◌else◌, ℕ, zero, suc, List, [], ◌∷◌, length, refl, sym, ap, subst, ◌∙◌, Option}
use Rattle.key_state.specs.declared.content.Key.{Key}
use Rattle.journal.specs.Entry.{Entry, Put, Merge, Read, Restart}
use Rattle.journal.specs.Logs.{Log}
use Rattle.world.specs.declared.event.Event.{Event}
use Rattle.world.specs.declared.event.Message.{Message}
use Rattle.world.specs.declared.event.Reply.{Reply}
use Rattle.world.specs.Knowledge.{Knowledge}
use Rattle.world.specs.Represents.{log_at, with_entry_at}
use Rattle.audit_replay.specs.Order.{Step}
use Rattle.audit_replay.specs.Interleaved.{IsSource, IsEventOf, Happened, IsMoment, known_before, nothing, one_more, ids_of}
use Rattle.audit_replay.specs.Rerun.{IsSoFar}

-- two lists of logs have the same identifiers
abbrev pub HaveSameIds : List Log → List Log → Type 0
HaveSameIds a b = (ids_of a ≡ ids_of b) × ((index : ℕ) → (log_at a index).vnode ≡ (log_at b index).vnode)

source_renamed : (a b : List Log) → HaveSameIds a b → (before : List Step) (number : ℕ) (key : Key) (from at : ℕ) → IsSource a before number key from at → IsSource b before number key from at
source_renamed a b same before number key from at (step, there, id, place, read) = (step, there, sym (same.1 step.vnode) ∙ id, place, read)

event_renamed : (a b : List Log) → HaveSameIds a b → (before : List Step) (replies : List Reply) (vnode : ℕ) (e : Entry) (what : Event) (reply : Reply) → IsEventOf a before replies vnode e what reply → IsEventOf b before replies vnode e what reply
event_renamed a b same before replies vnode (Put stamp key seen content dot) what reply h = h
event_renamed a b same before replies vnode (Merge stamp key from at state) what reply (number, message, source, sent, k, f, p, s, w, changed) = (number, message, source_renamed a b same before number key from at source, sent, k, f, p, s, w, changed)
event_renamed a b same before replies vnode (Read stamp key) what reply h = h
event_renamed a b same before replies vnode (Restart stamp) what reply h = h

happened_renamed : (begin : Knowledge) (a b : List Log) → HaveSameIds a b → (steps : List Step) (replies : List Reply) (known : Knowledge) → Happened begin a steps replies known → Happened begin b steps replies known
happened_renamed begin a b same _ _ _ nothing = nothing
happened_renamed begin a b same _ _ _ (one_more steps replies old step what reply new before is happens) =
    one_more steps replies old step what reply new (happened_renamed begin a b same steps replies old before) (event_renamed a b same steps replies step.vnode step.entry what reply is) happens

-- and what was known before each step
known_renamed : (begin : Knowledge) (a b : List Log) (same : HaveSameIds a b) (steps : List Step) (replies : List Reply) (known : Knowledge) (h : Happened begin a steps replies known) (number : ℕ) → known_before (happened_renamed begin a b same steps replies known h) number ≡ known_before h number
unfolding happened_renamed
known_renamed begin a b same _ _ _ nothing number = refl
known_renamed begin a b same _ _ _ (one_more steps replies old step what reply new before is happens) number =
    ap (λ (w : Knowledge). if number == length steps then old else w) (known_renamed begin a b same steps replies old before number)

pub so_far_renamed : (begin : Knowledge) (a b : List Log) → HaveSameIds a b → (steps : List Step) (now : List Log) (messages : List (Option Message)) → IsSoFar begin a steps now messages → IsSoFar begin b steps now messages
so_far_renamed begin a b same steps now messages so_far = record {
  replies = so_far.replies;
  known = so_far.known;
  happened = happened_renamed begin a b same steps so_far.replies so_far.known so_far.happened;
  moments = λ number s at. subst (λ (w : Knowledge). IsMoment now s w) (sym (known_renamed begin a b same steps so_far.replies so_far.known so_far.happened number)) (so_far.moments number s at);
  represents = so_far.represents;
  remember = so_far.remember;
  len = so_far.len;
  sent = so_far.sent;
}

-- one entry more changes no identifier
same_id : (logs : List Log) (i : ℕ) (e : Entry) (index : ℕ) → (log_at logs index).vnode ≡ (log_at (with_entry_at logs i e) index).vnode
same_id [] i e index = refl
same_id (log ∷ logs) zero e zero = refl
same_id (log ∷ logs) zero e (suc index) = refl
same_id (log ∷ logs) (suc i) e zero = refl
same_id (log ∷ logs) (suc i) e (suc index) = same_id logs i e index

same_list : (logs : List Log) (i : ℕ) (e : Entry) → ids_of logs ≡ ids_of (with_entry_at logs i e)
same_list [] i e = refl
same_list (log ∷ logs) zero e = refl
same_list (log ∷ logs) (suc i) e = ap (λ (ids : List ℕ). log.vnode ∷ ids) (same_list logs i e)

pub same_ids : (logs : List Log) (i : ℕ) (e : Entry) → HaveSameIds logs (with_entry_at logs i e)
same_ids logs i e = (same_list logs i e, same_id logs i e)
