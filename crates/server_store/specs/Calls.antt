-- What a read and a write do to a store's vnodes and hooks (Riak KV documentation, reads, writes, read repair; this store's profile).
use Rattle.std.specs.Prelude.{◌≡◌, ℕ, List, length, Option, Result, Ok, Err, Bool}
use Rattle.std.specs.Global.{Vec}
use Rattle.dvv.specs.declared.Dot.{Dot}
use Rattle.key_state.specs.declared.content.Content.{Content}
use Rattle.key_state.specs.declared.content.Key.{Key}
use Rattle.key_state.specs.State.{State}
use Rattle.bpf_image.specs.declared.image.ImageKind.{ImageKind}
use Rattle.bpf_image.specs.declared.image.ImageKind.TheVariants.{PreCommit, Resolver}
use Rattle.bpf_verifier.specs.Program.{Program}
use Rattle.hook_registry.specs.declared.fault.NotSeen.{NotSeen}
use Rattle.peers.specs.declared.peers.Answer.{Answer}
use Rattle.peers.specs.declared.fault.PeerFault.{PeerFault}
use Rattle.peers.specs.Calls.{Call, Made}
use Rattle.ring.specs.Places.{place_in, preferred, vnode_at, others}
use Rattle.quorum.specs.declared.fault.QuorumFault.{QuorumFault}
use Rattle.quorum.specs.declared.fault.ResolveFault.{ResolveFault}
use Rattle.quorum.specs.declared.fault.Unfit.{Unfit}
use Rattle.quorum.specs.Gets.{reads, GetsAnswer}
use Rattle.quorum.specs.Judged.{IsJudgedPut}
use Rattle.quorum.specs.Resolves.{IsResolve, IsUnfit, cut_of, state_told}
use Rattle.repair.specs.Repairs.{deliveries, tries}
use Rattle.server_log.specs.Notes.{noted_of}
use Rattle.server_store.specs.Noting.{of_fault, of_put, of_resolver}
use Rattle.server_store.specs.View.{StoreView}

-- what no call changes: the helpers that hooks may call, and where keys stand
abbrev pub IsKept : {P H : Type 0} → StoreView P H → StoreView P H → Type 0
IsKept old new = (new.listed ≡ old.listed) × (new.placement ≡ old.placement)

module _ {P H : Type 0} (old : StoreView P H) (key : Key) where
  -- the vnode at which the key's preference list begins
  abbrev pub place : ℕ
  place = place_in old.placement key.bucket key.key

  -- the list, its vnode at an index, and the others of that
  abbrev pub list : List ℕ
  list = preferred old.placement place

  abbrev pub coordinator : ℕ → ℕ
  coordinator at = vnode_at place at old.placement.vnodes

  abbrev pub the_others : ℕ → List ℕ
  the_others at = others old.placement place at

module _ {P H : Type 0} (happens : P → Call → P → Type 0) (finds : H → List ℕ → ImageKind → Result (Option Program) NotSeen → H → Type 0) where
  -- what follows the reads of a get: read repair, then the bucket's resolver; what went wrong is noted, as its answer or the resolver's run shows it
  abbrev pub AfterReads : StoreView P H → Key → ℕ → P → Result (State × Vec Answer) QuorumFault → Result State QuorumFault → StoreView P H → Type 0
  AfterReads old key at read (Err fault) result new = (result ≡ Err fault) × (new.peers ≡ read) × (new.hooks ≡ old.hooks) × (new.noted ≡ noted_of old.noted (of_fault fault) key.bucket)
  AfterReads old key at read (Ok found) result new =
      (backs : List (Result Bool PeerFault)) × (repaired : P) × (calls : List Call) × (told : Result (Option State) ResolveFault) × (unfit : Option Unfit)
      × Made happens read (tries key (deliveries found.1.items) backs) repaired × (length backs ≡ length (deliveries found.1.items))
      × Made happens repaired calls new.peers
      × IsResolve (coordinator old key at) key found.1.items found.0.clock (λ before answer after. finds before key.bucket Resolver answer after) old.hooks new.hooks old.listed found.0.siblings calls told
      × IsUnfit (λ before answer after. finds before key.bucket Resolver answer after) old.hooks new.hooks old.listed found.0.siblings unfit
      × (result ≡ Ok (state_told found.0 told)) × (new.noted ≡ noted_of old.noted (of_resolver (cut_of told) unfit) key.bucket)

  -- a read: each vnode of the list is read, and what follows
  abbrev pub Gets : StoreView P H → Key → ℕ → ℕ → Result State QuorumFault → StoreView P H → Type 0
  Gets old key r at result new =
      (backs : List (Result Answer PeerFault)) × (read : P) × (merged : Result (State × Vec Answer) QuorumFault)
      × Made happens old.peers (reads key (list old key) backs) read × GetsAnswer key (list old key) r backs merged
      × AfterReads old key at read merged result new × IsKept old new

  -- a write, with the bucket's pre-commit hook in front; where it is a trouble, that is noted
  abbrev pub Puts : StoreView P H → Key → List Dot → Content → ℕ → ℕ → Result Dot QuorumFault → StoreView P H → Type 0
  Puts old key seen content w at result new =
      (found : Result (Option Program) NotSeen) × (calls : List Call) × finds old.hooks key.bucket PreCommit found new.hooks
      × Made happens old.peers calls new.peers
      × IsJudgedPut old.listed (coordinator old key at) (the_others old key at) key w seen content found calls result
      × IsKept old new × (new.noted ≡ noted_of old.noted (of_put result) key.bucket)
