-- What calls add to what a pass was told.
use Rattle.std.proofs.Common.{◌≡◌, inl, inr, ℕ, ◌+◌, Bool, true, false, List, [], ◌∷◌, ◌++◌, ap, ◌∙◌, sym, append-nil, append_assoc, Option, Some, None, Result, Ok, Err}
use Rattle.std.specs.Prelude.{MatchBool}
use Rattle.std.specs.Global.{Vec}
use Rattle.bpf_image.specs.declared.image.ImageKind.{ImageKind}
use Rattle.bpf_verifier.specs.Program.{Program}
use Rattle.bpf_admission.specs.declared.refusal.Refusal.{Refusal}
use Rattle.key_state.specs.declared.content.Key.{Key}
use Rattle.key_state.specs.State.{State}
use Rattle.hook_registry.specs.Changes as registry
use Rattle.hook_registry.specs.declared.fault.HookFault.{HookFault}
use Rattle.hook_registry.specs.declared.fault.NameFault.{NameFault}
use Rattle.hook_registry.specs.declared.fault.NotSeen.{NotSeen}
use Rattle.http_request.specs.declared.ask.Call.{Call}
use Rattle.http_response.specs.declared.reply.Bound.{Bound}
use Rattle.http_response.specs.declared.reply.Reply.{Reply}
use Rattle.http_connection.specs.Dialogue.{Does, Exchange, Runs, call_of}
use Rattle.peers.specs.Calls.{Call as PeerCall, KeysOf, Made, MergeAt, MergePartAt, PutAt, StateOf, SummaryAt}
use Rattle.peers.specs.declared.fault.PeerFault.{PeerFault}
use Rattle.peers.specs.declared.fault.PeerFault.TheVariants.{Lost, Refused}
use Rattle.peers.specs.declared.peers.Answer.{Answer}
use Rattle.peers.specs.declared.peers.PartAnswer.TheVariants.{Merged, Missing}
use Rattle.quorum.specs.declared.fault.QuorumFault.{QuorumFault}
use Rattle.cluster_stamps.specs.declared.request.Request.{Request}
use Rattle.vnode.specs.declared.fault.PartFault.{PartFault}
use Rattle.cluster_stamps.specs.declared.view.Size.{Size}
use Rattle.cluster_stamps.specs.declared.view.Told.{Told}
use Rattle.cluster_stamps.specs.declared.view.View.{View}
use Rattle.cluster_vnode.specs.Answers.{is_want_of_memory}
use Rattle.cluster_vnode.specs.Calls.{IsFault, IsRefusal}
use Rattle.cluster_vnode.specs.declared.fault.CallFault.{CallFault}
use Rattle.cluster_vnode.specs.declared.fault.CallFault.TheVariants as fault
use Rattle.vnode.specs.declared.fault.PartFault.TheVariants as part
use Rattle.server_store.specs.Calls.{AfterReads}
use Rattle.server_store.specs.Changes.{Installs}
use Rattle.server_store.specs.Gives.{Gives, NamesBoth, gets, puts, installs, removes, tells, binds}
use Rattle.server_store.specs.View.{StoreView}
use Rattle.cluster_peers.specs.Peering.{IsNoReply, Passes}
use Rattle.server_one_thread.specs.Passes.{AreCallsOf, IsOfOnePass, Passing, all_calls, told_to}

-- more was told, or nothing
abbrev pub Grows : List Told → List Told → Type 0
Grows old new = (own : List Told) × (new ≡ old ++ own)

pub grows_not : (old new : List Told) → new ≡ old → Grows old new
grows_not old new same = ([], same ∙ sym (append-nil old))

pub grows_on : (old mid new : List Told) → Grows old mid → Grows mid new → Grows old new
grows_on old mid new a b = (a.0 ++ b.0, b.1 ∙ ap (λ (l : List Told). l ++ b.0) a.1 ∙ append_assoc old a.0 b.0)

-- ---- one call

by_refusal : (old new : View) (vnode : ℕ) (asked : Request) (why : PartFault) → IsRefusal old new vnode asked why → Grows old.told new.told
by_refusal old new vnode asked why (t, news, of, is) = (t ∷ [], news.0)

by_fault : (old new : View) (vnode : ℕ) (asked : Request) (why : CallFault) → IsFault old new vnode asked why → Grows old.told new.told
by_fault old new vnode asked fault.PassSpent h = grows_not old.told new.told h.0
by_fault old new vnode asked fault.Missing h = by_refusal old new vnode asked part.Missing h
by_fault old new vnode asked (fault.Refused why) h = at (is_want_of_memory why) h
  where
    at : (b : Bool) → MatchBool b (new.told ≡ old.told) (IsRefusal old new vnode asked (part.Refused why)) → Grows old.told new.told
    at true same = grows_not old.told new.told same
    at false refusal = by_refusal old new vnode asked (part.Refused why) refusal

by_none : (size : Size) (old new : View) (i : ℕ) (asked : Request) (why : PeerFault) → IsNoReply size old new i asked why → Grows old.told new.told
by_none size old new i asked Lost h = grows_not old.told new.told h.0
by_none size old new i asked (Refused why) h = by_fault old new (size.first + i) asked (fault.Refused why) h.1

pub by_call : (size : Size) (old new : View) (call : PeerCall) → Passes size old call new → Grows old.told new.told
by_call size old new (PutAt i key seen content (Ok dot)) h = (_, h.1.1.1.0)
by_call size old new (PutAt i key seen content (Err why)) h = by_none size old new i _ why h
by_call size old new (MergeAt i key from at state (Ok changed)) h = (_, h.1.1.1.0)
by_call size old new (MergeAt i key from at state (Err why)) h = by_none size old new i _ why h
by_call size old new (StateOf i key (Ok answer)) h = (_, h.1.1.1.0)
by_call size old new (StateOf i key (Err why)) h = by_none size old new i _ why h
by_call size old new (SummaryAt i key (Ok answer)) h = (_, h.1.1.1.0)
by_call size old new (SummaryAt i key (Err why)) h = by_none size old new i _ why h
by_call size old new (MergePartAt i key from at piece (Ok (Merged changed))) h = (_, h.2.1.1.0)
by_call size old new (MergePartAt i key from at piece (Ok Missing)) h = by_fault old new (size.first + i) _ fault.Missing h.1
by_call size old new (MergePartAt i key from at piece (Err why)) h = by_none size old new i _ why h
by_call size old new (KeysOf i (Ok keys)) h = grows_not old.told new.told h.0
by_call size old new (KeysOf i (Err Lost)) h = grows_not old.told new.told h.0
by_call size old new (KeysOf i (Err (Refused why))) h = grows_not old.told new.told h.1

-- ---- the calls of the front

-- what becomes of the vnodes by calls, one after the other
module _ {P H : Type 0} (happens : P → PeerCall → P → Type 0) (finds : H → List ℕ → ImageKind → Result (Option Program) NotSeen → H → Type 0)
    (names : H → List ℕ → ImageKind → Result (Option (List ℕ)) NameFault → H → Type 0) (takes : H → registry.Change → Result Unit HookFault → H → Type 0)
    (Becomes : P → P → Type 0) (same : (old new : P) → new ≡ old → Becomes old new) (both : (old mid new : P) → Becomes old mid → Becomes mid new → Becomes old new)
    (one : (old new : P) (call : PeerCall) → happens old call new → Becomes old new) where
  by_calls : (calls : List PeerCall) (old new : P) → Made happens old calls new → Becomes old new
  by_calls [] old new e = same old new e
  by_calls (call ∷ calls) old new (mid, step, rest) = both old mid new (one old mid call step) (by_calls calls mid new rest)

  by_reads : (old : StoreView P H) (key : Key) (at : ℕ) (read : P) (merged : Result (State × Vec Answer) QuorumFault) (result : Result State QuorumFault) (new : StoreView P H) → AfterReads happens finds old key at read merged result new → Becomes read new.peers
  by_reads old key at read (Err why) result new h = same read new.peers h.1
  by_reads old key at read (Ok found) result new (backs, repaired, calls, told, unfit, repairs, size, resolves, resolution, is_unfit, result_is, noted) =
      both read repaired new.peers (by_calls _ read repaired repairs) (by_calls calls repaired new.peers resolves)

  by_installs : (old new : StoreView P H) (name image : List ℕ) (result : Result Unit Refusal) → Installs takes old name image result new → Becomes old.peers new.peers
  by_installs old new name image (Ok done) h = same old.peers new.peers h.3.0
  by_installs old new name image (Err why) (inl h) = same old.peers new.peers (ap (λ (s : StoreView P H). s.peers) h.1)
  by_installs old new name image (Err why) (inr (inl h)) = same old.peers new.peers (ap (λ (s : StoreView P H). s.peers) h.1)
  by_installs old new name image (Err why) (inr (inr h)) = same old.peers new.peers h.5.0

  by_names : (old new : StoreView P H) (bucket : List ℕ) (result : Result Bound NameFault) → NamesBoth names old bucket result new → Becomes old.peers new.peers
  by_names old new bucket (Ok bound) (mid, first, second) = same old.peers new.peers (second.1.0 ∙ first.1.0)
  by_names old new bucket (Err why) (inl first) = same old.peers new.peers first.1.0
  by_names old new bucket (Err why) (inr (mid, name, first, second)) = same old.peers new.peers (second.1.0 ∙ first.1.0)

  pub by_front : (old new : StoreView P H) (call : Call) (reply : Reply) → Gives happens finds names takes old new call reply → Becomes old.peers new.peers
  by_front old new call reply (gets key r at result (backs, read, merged, reads, answer, after, kept)) =
      both old.peers read new.peers (by_calls _ old.peers read reads) (by_reads old key at read merged result new after)
  by_front old new call reply (puts key seen content w at result (found, calls, looked, made, judged, kept, noted)) = by_calls calls old.peers new.peers made
  by_front old new call reply (installs name image result h) = by_installs old new name image result h
  by_front old new call reply (removes name result h) = same old.peers new.peers h.1.0
  by_front old new call reply (tells bucket result h) = by_names old new bucket result h
  by_front old new call reply (binds bucket precommit resolver result (inl h)) = same old.peers new.peers h.1.0
  by_front old new call reply (binds bucket precommit resolver result (inr h)) = same old.peers new.peers (ap (λ (s : StoreView P H). s.peers) h.1)

-- ---- the exchanges, one after the other

-- where each call has more told, or nothing, each exchange does
module _ {B : Type 0} (gives : B → Call → Reply → B → Type 0) (told : B → List Told) (grows : (old new : B) (call : Call) (reply : Reply) → gives old call reply new → Grows (told old) (told new)) where
  by_request : (old new : B) (call : Option Call) (reply : Reply) → Does gives old call reply new → Grows (told old) (told new)
  by_request old new None reply e = grows_not (told old) (told new) (ap told e)
  by_request old new (Some call) reply h = grows old new call reply h

  pub calls_are : (xs : List Exchange) (start end : B) → Runs gives start xs end → (owns : List (List Told)) × AreCallsOf gives told start xs owns end × (told end ≡ told start ++ all_calls owns)
  calls_are [] start end e = ([], e, ap told e ∙ sym (append-nil (told start)))
  calls_are (x ∷ xs) start end (mid, does, runs) =
      let own = by_request start mid (call_of x.asked) x.reply does in
      let rest = calls_are xs mid end runs in (
        own.0 ∷ rest.0,
        (mid, does, own.1, rest.1),
        rest.2 ∙ ap (λ (l : List Told). l ++ all_calls rest.0) own.1 ∙ append_assoc (told start) own.0 (all_calls rest.0),
      )

module _ {B P H : Type 0} (gives : B → Call → Reply → B → Type 0) (happens : P → PeerCall → P → Type 0) (finds : H → List ℕ → ImageKind → Result (Option Program) NotSeen → H → Type 0)
    (names : H → List ℕ → ImageKind → Result (Option (List ℕ)) NameFault → H → Type 0) (takes : H → registry.Change → Result Unit HookFault → H → Type 0) (now : B → StoreView P H) (passing : P → Passing)
    (is : IsOfOnePass gives happens finds names takes now passing) where
  abbrev told_of : P → List Told
  told_of p = (passing p).pass.told

  -- what a pass is told by calls of the front
  pub told_more : (old new : B) (call : Call) (reply : Reply) → gives old call reply new → Grows (told_to now passing old) (told_to now passing new)
  told_more old new call reply h =
      by_front happens finds names takes (λ a b. Grows (told_of a) (told_of b)) (λ a b e. grows_not (told_of a) (told_of b) (ap told_of e)) (λ a b c. grows_on (told_of a) (told_of b) (told_of c))
      (λ a b call step. by_call (passing a).size (passing a).pass (passing b).pass call (is.passes a b call step).known)
      (now old) (now new) call reply (is.calls old new call reply h)
