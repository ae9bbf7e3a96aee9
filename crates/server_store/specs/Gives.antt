-- What the calls of the front do to a store, and what they are answered.
use Rattle.std.specs.Prelude.{◌≡◌, ◌⊎◌, ℕ, List, Option, Result, Ok, Err}
use Rattle.std.proofs.Common.{ap, inl, inr, ◌∙◌}
use Rattle.dvv.specs.declared.Dot.{Dot}
use Rattle.key_state.specs.declared.content.Content.{Content}
use Rattle.key_state.specs.declared.content.Key.{Key}
use Rattle.key_state.specs.State.{State}
use Rattle.bpf_image.specs.declared.image.ImageKind.{ImageKind}
use Rattle.bpf_image.specs.declared.image.ImageKind.TheVariants.{PreCommit, Resolver}
use Rattle.bpf_verifier.specs.Program.{Program}
use Rattle.bpf_admission.specs.declared.refusal.Refusal.{Refusal}
use Rattle.hook_registry.specs.declared.fault.HookFault.{HookFault}
use Rattle.hook_registry.specs.declared.fault.NameFault.{NameFault}
use Rattle.hook_registry.specs.declared.fault.NotSeen.{NotSeen}
use Rattle.hook_registry.specs.Changes as registry
use Rattle.peers.specs.Calls.{Call as PeerCall}
use Rattle.ring.specs.Places.{PlacementView, copies_in}
use Rattle.quorum.specs.declared.fault.QuorumFault.{QuorumFault}
use Rattle.http_request.specs.declared.ask.Change.{Change}
use Rattle.http_request.specs.declared.ask.Call.{Call}
use Rattle.http_request.specs.declared.ask.Call.TheVariants as ask
use Rattle.http_response.specs.declared.reply.Bound.{Bound}
use Rattle.http_response.specs.declared.reply.Reply.{Reply}
use Rattle.http_response.specs.declared.reply.Reply.TheVariants.{Got, Stored, Installed, Removed, Props, Set}
use Rattle.server_store.specs.View.{StoreView}
use Rattle.server_store.specs.Calls.{Gets, Puts}
use Rattle.server_store.specs.Changes.{Installs, Removes, Binds, Names}

-- the names that are bound to both kinds of a bucket, looked up one after the other
abbrev pub NamesBoth : {P H : Type 0} → (H → List ℕ → ImageKind → Result (Option (List ℕ)) NameFault → H → Type 0) → StoreView P H → List ℕ → Result Bound NameFault → StoreView P H → Type 0
NamesBoth {P} {H} names old bucket (Ok bound) new = (mid : StoreView P H) × Names names old bucket PreCommit (Ok bound.precommit) mid × Names names mid bucket Resolver (Ok bound.resolver) new
NamesBoth {P} {H} names old bucket (Err fault) new = Names names old bucket PreCommit (Err fault) new
    ⊎ ((mid : StoreView P H) × (name : Option (List ℕ)) × Names names old bucket PreCommit (Ok name) mid × Names names mid bucket Resolver (Err fault) new)

-- a call may be answered so, and leave the other store
pub data Gives {P H : Type 0} (happens : P → PeerCall → P → Type 0) (finds : H → List ℕ → ImageKind → Result (Option Program) NotSeen → H → Type 0)
    (names : H → List ℕ → ImageKind → Result (Option (List ℕ)) NameFault → H → Type 0) (takes : H → registry.Change → Result Unit HookFault → H → Type 0)
    (old new : StoreView P H) : Call → Reply → Type 0 where
  gets : (key : Key) (r at : ℕ) (result : Result State QuorumFault) → Gets happens finds old key r at result new → Gives happens finds names takes old new (ask.Get key r at) (Got result)
  puts : (key : Key) (seen : List Dot) (content : Content) (w at : ℕ) (result : Result Dot QuorumFault) → Puts happens finds old key seen content w at result new → Gives happens finds names takes old new (ask.Put key seen content w at) (Stored result)
  installs : (name image : List ℕ) (result : Result Unit Refusal) → Installs takes old name image result new → Gives happens finds names takes old new (ask.Install name image) (Installed result)
  removes : (name : List ℕ) (result : Result Unit HookFault) → Removes takes old name result new → Gives happens finds names takes old new (ask.Remove name) (Removed result)
  tells : (bucket : List ℕ) (result : Result Bound NameFault) → NamesBoth names old bucket result new → Gives happens finds names takes old new (ask.ReadProps bucket) (Props result)
  binds : (bucket : List ℕ) (precommit resolver : Change) (result : Result Unit HookFault) → Binds takes old bucket precommit resolver result new → Gives happens finds names takes old new (ask.SetProps bucket precommit resolver) (Set result)

module _ {P H : Type 0} (happens : P → PeerCall → P → Type 0) (finds : H → List ℕ → ImageKind → Result (Option Program) NotSeen → H → Type 0)
    (names : H → List ℕ → ImageKind → Result (Option (List ℕ)) NameFault → H → Type 0) (takes : H → registry.Change → Result Unit HookFault → H → Type 0) where
  same : (old new : StoreView P H) → new ≡ old → new.placement ≡ old.placement
  same old new is = ap (λ (s : StoreView P H). s.placement) is

  many : (old new : StoreView P H) → new.placement ≡ old.placement → copies_in new.placement ≡ copies_in old.placement
  many old new is = ap (λ (p : PlacementView). copies_in p) is

  installs_keep : (old new : StoreView P H) (name image : List ℕ) (result : Result Unit Refusal) → Installs takes old name image result new → new.placement ≡ old.placement
  installs_keep old new name image (Ok done) h = h.3.1.1
  installs_keep old new name image (Err why) (inl h) = same old new h.1
  installs_keep old new name image (Err why) (inr (inl h)) = same old new h.1
  installs_keep old new name image (Err why) (inr (inr h)) = h.5.1.1

  tells_keep : (old new : StoreView P H) (bucket : List ℕ) (result : Result Bound NameFault) → NamesBoth names old bucket result new → new.placement ≡ old.placement
  tells_keep old new bucket (Ok bound) (mid, first, second) = second.1.1.1 ∙ first.1.1.1
  tells_keep old new bucket (Err fault) (inl first) = first.1.1.1
  tells_keep old new bucket (Err fault) (inr (mid, name, first, second)) = second.1.1.1 ∙ first.1.1.1

  binds_keep : (old new : StoreView P H) (bucket : List ℕ) (precommit resolver : Change) (result : Result Unit HookFault) → Binds takes old bucket precommit resolver result new → new.placement ≡ old.placement
  binds_keep old new bucket precommit resolver result (inl h) = h.1.1.1
  binds_keep old new bucket precommit resolver result (inr h) = same old new h.1

  -- no call changes how many copies of a key there are
  pub gives_keep : (old new : StoreView P H) (call : Call) (reply : Reply) → Gives happens finds names takes old new call reply → copies_in new.placement ≡ copies_in old.placement
  gives_keep old new call reply (gets key r at result h) = many old new h.6.1
  gives_keep old new call reply (puts key seen content w at result h) = many old new h.5.1
  gives_keep old new call reply (installs name image result h) = many old new (installs_keep old new name image result h)
  gives_keep old new call reply (removes name result h) = many old new h.1.1.1
  gives_keep old new call reply (tells bucket result h) = many old new (tells_keep old new bucket result h)
  gives_keep old new call reply (binds bucket precommit resolver result h) = many old new (binds_keep old new bucket precommit resolver result h)
