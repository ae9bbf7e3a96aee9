-- One entry more is one step more of the run.
use Rattle.std.proofs.Common.{◌≡◌, ℕ, ◌+◌, ◌<◌, Bool, List, [], ◌∷◌, ◌++◌, length, refl, sym, ap, subst, ◌∙◌, inl, inr, Some, length-append, Option, None}
use Rattle.std.specs.Prelude.{slice_get}
use Rattle.dvv.specs.declared.Dot.{Dot}
use Rattle.key_state.specs.declared.content.Content.{Content}
use Rattle.key_state.specs.declared.content.Key.{Key}
use Rattle.journal.specs.Logs.{Log}
use Rattle.journal.specs.Entry.{Entry}
use Rattle.journal.specs.Entry as entry
use Rattle.journal.specs.Answers.{TellsChange}
use Rattle.journal.specs.Replay.{IsReplay}
use Rattle.world.specs.Appending.{Appends}
use Rattle.world.specs.declared.event.Event.{Event}
use Rattle.world.specs.declared.event.Event.TheVariants as event
use Rattle.world.specs.declared.event.Seen.TheVariants.{Clock as Given}
use Rattle.world.specs.declared.event.Message.{Message}
use Rattle.world.specs.declared.event.Reply.{Reply}
use Rattle.world.specs.declared.event.Reply.TheVariants.{Stored, Sent, Changed, Restarted}
use Rattle.world.specs.Happening.{Happens}
use Rattle.world.specs.Knowledge.{Knowledge}
use Rattle.world.specs.Represents.{Represents, log_at}
use Rattle.world.specs.Running.{Begins, Remember, IsMessageOf}
use Rattle.world.proofs.Runs.{put_happened, send_happened, delivery_happened, restart_happened}
use Rattle.world.proofs.Whole.{remember_more, still_at, more_cases}
use Rattle.audit_replay.specs.Order.{Step}
use Rattle.audit_replay.specs.Interleaved.{IsSource, IsEventOf, IsMoment, known_before, nothing, one_more}
use Rattle.audit_replay.specs.Rerun.{IsSoFar}
use Rattle.audit_replay.proofs.Moments.{moments_more}
use Rattle.audit_replay.proofs.Next.{step_at}

-- nothing happened yet after a beginning
pub begins : (begin : Knowledge) (logs now : List Log) → Begins now [] begin → IsSoFar begin logs [] now []
begins begin logs now begun = record {
  replies = [];
  known = begin;
  happened = nothing;
  moments = λ number s at. absurd cc;
  represents = begun.represents;
  remember = record { len = sym (ap length begun.nothing); each = λ k r h. absurd cc };
  len = refl;
  sent = λ k m h. absurd cc;
}

-- a step, whatever it is
pub goes_on : (begin : Knowledge) (logs now new : List Log) (steps : List Step) (messages : List (Option Message)) (v : ℕ) (e : Entry) (what : Event) (reply : Reply) (told : Option Message)
    → (so_far : IsSoFar begin logs steps now messages) → v < length now → Appends now new v e → IsEventOf logs steps so_far.replies v e what reply
    → ((after : Knowledge) × Happens [] so_far.known what reply after × Represents new after) → ((m : Message) → told ≡ Some m → reply ≡ Sent m)
    → IsSoFar begin logs (steps ++ step_at v (length (log_at now v).entries) e ∷ []) new (messages ++ told ∷ [])
goes_on begin logs now new steps messages v e what reply told so_far inside appends is h tells = record {
  replies = so_far.replies ++ reply ∷ [];
  known = h.0;
  happened = one_more steps so_far.replies so_far.known (step_at v (length (log_at now v).entries) e) what reply h.0 so_far.happened is h.1;
  moments = λ number s at. subst (λ (ls : List Log). IsMoment ls s (known_before (one_more steps so_far.replies so_far.known (step_at v (length (log_at now v).entries) e) what reply h.0 so_far.happened is h.1) number)) (sym appends.entries)
      (moments_more begin logs now steps so_far.replies so_far.known so_far.happened v e what reply h.0 is h.1 inside so_far.represents appends.follows so_far.moments number s at);
  represents = h.2;
  remember = remember_more [] so_far.replies so_far.known what reply h.0 so_far.remember h.1;
  len = length-append messages (told ∷ []) ∙ ap (λ n. n + 1) so_far.len ∙ sym (length-append so_far.replies (reply ∷ []));
  sent = λ k m at. elim (more_cases messages told (Some m) k at) [
    | inl before ↦ still_at so_far.replies reply (Sent m) k (so_far.sent k m before.1)
    | inr last ↦ subst (λ i. slice_get (so_far.replies ++ reply ∷ []) i ≡ Some (Sent m)) (sym (last.0 ∙ so_far.len)) (at_end so_far.replies reply (Sent m) (tells m last.1))
  ];
}
  where
    at_end : (rs : List Reply) (r s : Reply) → r ≡ s → slice_get (rs ++ r ∷ []) (length rs) ≡ Some s
    at_end [] r s e = ap Some e
    at_end (x ∷ rs) r s e = at_end rs r s e

pub put_goes_on : (begin : Knowledge) (logs now new : List Log) (steps : List Step) (messages : List (Option Message)) (v stamp : ℕ) (key : Key) (seen : List Dot) (content : Content) (dot : Dot)
    → IsSoFar begin logs steps now messages → v < length now → Appends now new v (entry.Put stamp key seen content dot)
    → IsSoFar begin logs (steps ++ step_at v (length (log_at now v).entries) (entry.Put stamp key seen content dot) ∷ []) new (messages ++ None ∷ [])
put_goes_on begin logs now new steps messages v stamp key seen content dot so_far inside appends =
    goes_on begin logs now new steps messages v (entry.Put stamp key seen content dot) (event.Put v key (Given seen) content) (Stored dot) None so_far inside appends (refl, refl)
    (put_happened [] now new so_far.known v stamp key (Given seen) content seen dot so_far.represents inside refl appends) (λ m e. absurd cc)

pub read_goes_on : (begin : Knowledge) (logs now new : List Log) (steps : List Step) (messages : List (Option Message)) (v stamp : ℕ) (message : Message)
    → IsSoFar begin logs steps now messages → v < length now → Appends now new v (entry.Read stamp message.key) → IsReplay (log_at now v).entries message.key message.state
    → message.from ≡ (log_at now v).vnode → message.at ≡ length (log_at now v).entries
    → IsSoFar begin logs (steps ++ step_at v (length (log_at now v).entries) (entry.Read stamp message.key) ∷ []) new (messages ++ Some message ∷ [])
read_goes_on begin logs now new steps messages v stamp message so_far inside appends replay from at =
    goes_on begin logs now new steps messages v (entry.Read stamp message.key) (event.Send v message.key) (Sent message) (Some message) so_far inside appends (refl, (message, refl))
    (send_happened [] now new so_far.known v stamp message.key message so_far.represents inside appends replay refl from at) (λ m e. ap Sent cc)

pub restart_goes_on : (begin : Knowledge) (logs now new : List Log) (steps : List Step) (messages : List (Option Message)) (v stamp : ℕ)
    → IsSoFar begin logs steps now messages → v < length now → Appends now new v (entry.Restart stamp)
    → IsSoFar begin logs (steps ++ step_at v (length (log_at now v).entries) (entry.Restart stamp) ∷ []) new (messages ++ None ∷ [])
restart_goes_on begin logs now new steps messages v stamp so_far inside appends =
    goes_on begin logs now new steps messages v (entry.Restart stamp) (event.Restart v) Restarted None so_far inside appends (refl, refl)
    (restart_happened [] now new so_far.known v stamp so_far.represents inside appends) (λ m e. absurd cc)

-- the writes that a sent message carries
held : (replies : List Reply) (w : Knowledge) (number : ℕ) (message : Message) → Remember replies w → slice_get replies number ≡ Some (Sent message) → IsMessageOf w number message
held replies w number message remember at = remember.each number (Sent message) at

pub merge_goes_on : (begin : Knowledge) (logs now new : List Log) (steps : List Step) (messages : List (Option Message)) (v stamp number : ℕ) (message : Message) (changed : Bool)
    → (so_far : IsSoFar begin logs steps now messages) → v < length now → IsSource logs steps number message.key message.from message.at → slice_get messages number ≡ Some (Some message)
    → Appends now new v (entry.Merge stamp message.key message.from message.at message.state)
    → TellsChange (log_at now v).entries (entry.Merge stamp message.key message.from message.at message.state) message.key changed
    → IsSoFar begin logs (steps ++ step_at v (length (log_at now v).entries) (entry.Merge stamp message.key message.from message.at message.state) ∷ []) new (messages ++ None ∷ [])
merge_goes_on begin logs now new steps messages v stamp number message changed so_far inside source at appends tells =
    let sent = so_far.sent number message at in
    goes_on begin logs now new steps messages v (entry.Merge stamp message.key message.from message.at message.state) (event.Deliver number v) (Changed changed) None so_far inside appends
    (number, message, source, sent, refl, refl, refl, refl, refl, (changed, refl))
    (delivery_happened [] now new so_far.known v stamp number message changed so_far.represents inside (held so_far.replies so_far.known number message so_far.remember sent) appends tells) (λ m e. absurd cc)
