-- A call of the front adds receipts behind those that its pass had before.
use Rattle.std.proofs.Common.{◌≡◌, inl, inr, ℕ, List, [], ◌++◌, ap, ◌∙◌, sym, subst, append-nil, append_assoc, Option, Result, Ok, Err}
use Rattle.std.specs.Global.{Vec}
use Rattle.bpf_image.specs.declared.image.ImageKind.{ImageKind}
use Rattle.bpf_verifier.specs.Program.{Program}
use Rattle.bpf_admission.specs.declared.refusal.Refusal.{Refusal}
use Rattle.key_state.specs.declared.content.Key.{Key}
use Rattle.key_state.specs.State.{State}
use Rattle.hook_registry.specs.Changes as registry
use Rattle.hook_registry.specs.declared.fault.HookFault.{HookFault}
use Rattle.hook_registry.specs.declared.fault.NameFault.{NameFault}
use Rattle.hook_registry.specs.declared.fault.NotSeen.{NotSeen}
use Rattle.http_request.specs.declared.ask.Call.{Call}
use Rattle.http_response.specs.declared.reply.Bound.{Bound}
use Rattle.http_response.specs.declared.reply.Reply.{Reply}
use Rattle.peers.specs.Calls.{Call as PeerCall, Made}
use Rattle.peers.specs.declared.peers.Answer.{Answer}
use Rattle.quorum.specs.declared.fault.QuorumFault.{QuorumFault}
use Rattle.cluster_stamps.specs.declared.view.Told.{Told}
use Rattle.server_store.specs.Calls.{AfterReads}
use Rattle.server_store.specs.Changes.{Installs}
use Rattle.server_store.specs.Gives.{Gives, NamesBoth, gets, puts, installs, removes, tells, binds}
use Rattle.server_store.specs.View.{StoreView}
use Rattle.server_one_thread.specs.Passes.{PassCalls, Passing}
use Rattle.server_receipts.specs.Receipts.{AreBehind}
use Rattle.server_receipts.proofs.ReceiptLemmas.{behind_both, by_calls}

-- more receipts, behind those of before
abbrev pub Follows : Passing → Passing → Type 0
Follows old new = (own : List Told) × (new.pass.told ≡ old.pass.told ++ own) × AreBehind old.pass.told own

same : (old new : Passing) → new ≡ old → Follows old new
same old new e = ([], ap (λ (p : Passing). p.pass.told) e ∙ sym (append-nil old.pass.told), tt)

both : (old mid new : Passing) → Follows old mid → Follows mid new → Follows old new
both old mid new a b = (
  a.0 ++ b.0,
  b.1 ∙ ap (λ (l : List Told). l ++ b.0) a.1 ∙ append_assoc old.pass.told a.0 b.0,
  behind_both old.pass.told a.0 b.0 a.2 (subst (λ (l : List Told). AreBehind l b.0) a.1 b.2),
)

by_made : (calls : List PeerCall) (old new : Passing) → Made PassCalls old calls new → Follows old new
by_made calls old new made = let all = by_calls calls old new made in (all.own, all.told, all.behind)

module _ {H : Type 0} (finds : H → List ℕ → ImageKind → Result (Option Program) NotSeen → H → Type 0) (names : H → List ℕ → ImageKind → Result (Option (List ℕ)) NameFault → H → Type 0)
    (takes : H → registry.Change → Result Unit HookFault → H → Type 0) where
  by_reads : (old : StoreView Passing H) (key : Key) (at : ℕ) (read : Passing) (merged : Result (State × Vec Answer) QuorumFault) (result : Result State QuorumFault) (new : StoreView Passing H)
      → AfterReads PassCalls finds old key at read merged result new → Follows read new.peers
  by_reads old key at read (Err why) result new h = same read new.peers h.1
  by_reads old key at read (Ok found) result new (backs, repaired, calls, told, unfit, repairs, size, resolves, resolution, is_unfit, result_is, noted) =
      both read repaired new.peers (by_made _ read repaired repairs) (by_made calls repaired new.peers resolves)

  by_installs : (old new : StoreView Passing H) (name image : List ℕ) (result : Result Unit Refusal) → Installs takes old name image result new → Follows old.peers new.peers
  by_installs old new name image (Ok done) h = same old.peers new.peers h.3.0
  by_installs old new name image (Err why) (inl h) = same old.peers new.peers (ap (λ (s : StoreView Passing H). s.peers) h.1)
  by_installs old new name image (Err why) (inr (inl h)) = same old.peers new.peers (ap (λ (s : StoreView Passing H). s.peers) h.1)
  by_installs old new name image (Err why) (inr (inr h)) = same old.peers new.peers h.5.0

  by_names : (old new : StoreView Passing H) (bucket : List ℕ) (result : Result Bound NameFault) → NamesBoth names old bucket result new → Follows old.peers new.peers
  by_names old new bucket (Ok bound) (mid, first, second) = same old.peers new.peers (second.1.0 ∙ first.1.0)
  by_names old new bucket (Err why) (inl first) = same old.peers new.peers first.1.0
  by_names old new bucket (Err why) (inr (mid, name, first, second)) = same old.peers new.peers (second.1.0 ∙ first.1.0)

  pub by_front : (old new : StoreView Passing H) (call : Call) (reply : Reply) → Gives PassCalls finds names takes old new call reply → Follows old.peers new.peers
  by_front old new call reply (gets key r at result (backs, read, merged, reads, answer, after, kept)) = both old.peers read new.peers (by_made _ old.peers read reads) (by_reads old key at read merged result new after)
  by_front old new call reply (puts key seen content w at result (found, calls, looked, made, judged, kept, noted)) = by_made calls old.peers new.peers made
  by_front old new call reply (installs name image result h) = by_installs old new name image result h
  by_front old new call reply (removes name result h) = same old.peers new.peers h.1.0
  by_front old new call reply (tells bucket result h) = by_names old new bucket result h
  by_front old new call reply (binds bucket precommit resolver result (inl h)) = same old.peers new.peers h.1.0
  by_front old new call reply (binds bucket precommit resolver result (inr h)) = same old.peers new.peers (ap (λ (s : StoreView Passing H). s.peers) h.1)
