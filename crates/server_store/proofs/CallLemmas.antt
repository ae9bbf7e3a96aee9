-- What reads and writes of quorums say, as a store's.
use Rattle.std.proofs.Common.{◌≡◌, ℕ, List, length, Option, Result, Ok, Err, Bool, is_ok, count_by, ap, subst, refl, ◌∙◌}
use Rattle.std.specs.Global.{Vec}
use Rattle.dvv.specs.declared.Dot.{Dot}
use Rattle.key_state.specs.declared.content.Content.{Content}
use Rattle.key_state.specs.declared.content.Key.{Key}
use Rattle.key_state.specs.State.{State}
use Rattle.bpf_image.specs.declared.image.ImageKind.{ImageKind}
use Rattle.bpf_image.specs.declared.image.ImageKind.TheVariants.{PreCommit, Resolver}
use Rattle.bpf_verifier.specs.Program.{Program}
use Rattle.hook_registry.specs.declared.fault.NotSeen.{NotSeen}
use Rattle.peers.specs.declared.peers.Answer.{Answer}
use Rattle.peers.specs.declared.fault.PeerFault.{PeerFault}
use Rattle.peers.specs.Calls.{Call, Made}
use Rattle.ring.specs.Places.{preferred, vnode_at, others}
use Rattle.quorum.specs.declared.fault.QuorumFault.{QuorumFault}
use Rattle.quorum.specs.declared.fault.ResolveFault.{ResolveFault}
use Rattle.quorum.specs.Gets.{reads, GetsAnswer}
use Rattle.quorum.specs.Judged.{IsJudgedPut}
use Rattle.quorum.specs.declared.fault.Unfit.{Unfit}
use Rattle.quorum.specs.Resolves.{IsResolve, IsUnfit, state_told, cut_of}
use Rattle.repair.specs.Repairs.{deliveries, tries}
use Rattle.server_log.specs.declared.noted.Note.{Note}
use Rattle.server_log.specs.declared.trouble.Trouble.{Trouble}
use Rattle.server_log.specs.Notes.{noted_of}
use Rattle.server_store.specs.Noting.{of_fault, of_put, of_resolver}
use Rattle.server_store.specs.View.{StoreView}
use Rattle.server_store.specs.Calls.{IsKept, place, list, coordinator, the_others, Gets, Puts}

module _ {P H : Type 0} (old : StoreView P H) (key : Key) where
  pub list_is : (l : List ℕ) (p : ℕ) → l ≡ preferred old.placement p → p ≡ place old key → l ≡ list old key
  list_is l p is at = is ∙ ap (λ x. preferred old.placement x) at

  pub others_are : (l : List ℕ) (p at : ℕ) → l ≡ others old.placement p at → p ≡ place old key → l ≡ the_others old key at
  others_are l p at is begins = is ∙ ap (λ x. others old.placement x at) begins

  pub coordinator_is : (c p at : ℕ) → c ≡ vnode_at p at old.placement.vnodes → p ≡ place old key → c ≡ coordinator old key at
  coordinator_is c p at is begins = is ∙ ap (λ x. vnode_at x at old.placement.vnodes) begins

pub noted_is : (new old : List Note) (t u : Option Trouble) (name bucket : List ℕ) → new ≡ noted_of old t name → t ≡ u → name ≡ bucket → new ≡ noted_of old u bucket
noted_is new old t u name bucket is same at = is ∙ ap (λ t. noted_of old t name) same ∙ ap (λ l. noted_of old u l) at

module _ {P H : Type 0} (happens : P → Call → P → Type 0) (finds : H → List ℕ → ImageKind → Result (Option Program) NotSeen → H → Type 0) (old new : StoreView P H) (key : Key) where
  pub get_fails : (r at : ℕ) (l : List ℕ) (fault : QuorumFault) → l ≡ list old key
      → ((backs : List (Result Answer PeerFault)) × Made happens old.peers (reads key l backs) new.peers × GetsAnswer key l r backs (Err fault))
      → new.hooks ≡ old.hooks → new.noted ≡ noted_of old.noted (of_fault fault) key.bucket → IsKept old new → Gets happens finds old key r at (Err fault) new
  get_fails r at l fault is (backs, made, gets) hooks noted kept =
      (backs, new.peers, Err fault, subst (λ l. Made happens old.peers (reads key l backs) new.peers) is made, subst (λ l. GetsAnswer key l r backs (Err fault)) is gets, (refl, refl, hooks, noted), kept)

  pub get_answers : (r at c taken : ℕ) (l : List ℕ) (read repaired : P) (got result : State) (found : Vec Answer) (sent shown : List Answer) (cut : Option ResolveFault) (unfit : Option Unfit)
      → l ≡ list old key → c ≡ coordinator old key at → sent ≡ found.items → shown ≡ found.items
      → ((backs : List (Result Answer PeerFault)) × Made happens old.peers (reads key l backs) read × GetsAnswer key l r backs (Ok (got, found)))
      → ((backs : List (Result Bool PeerFault)) × Made happens read (tries key (deliveries sent) backs) repaired × (length backs ≡ length (deliveries sent)) × (taken ≡ count_by is_ok backs))
      → ((calls : List Call) × (told : Result (Option State) ResolveFault) × Made happens repaired calls new.peers
      × IsResolve c key shown got.clock (λ before answer after. finds before key.bucket Resolver answer after) old.hooks new.hooks old.listed got.siblings calls told
      × (result ≡ state_told got told) × (cut ≡ cut_of told))
      → IsUnfit (λ before answer after. finds before key.bucket Resolver answer after) old.hooks new.hooks old.listed got.siblings unfit
      → new.noted ≡ noted_of old.noted (of_resolver cut unfit) key.bucket → IsKept old new → Gets happens finds old key r at (Ok result) new
  get_answers r at c taken l read repaired got result found sent shown cut unfit is leads all all_too (backs, made, gets) (backs_2, made_2, each, count) (calls, told, made_3, resolves, is_told, cuts) unfits noted kept = (
    backs,
    read,
    Ok (got, found),
    subst (λ l. Made happens old.peers (reads key l backs) read) is made,
    subst (λ l. GetsAnswer key l r backs (Ok (got, found))) is gets,
    (
      backs_2,
      repaired,
      calls,
      told,
      unfit,
      subst (λ l. Made happens read (tries key (deliveries l) backs_2) repaired) all made_2,
      each ∙ ap (λ l. length (deliveries l)) all,
      made_3,
      subst (λ x. IsResolve x key found.items got.clock (λ before answer after. finds before key.bucket Resolver answer after) old.hooks new.hooks old.listed got.siblings calls told) leads
          (subst (λ l. IsResolve c key l got.clock (λ before answer after. finds before key.bucket Resolver answer after) old.hooks new.hooks old.listed got.siblings calls told) all_too resolves),
      unfits,
      ap Ok is_told,
      noted ∙ ap (λ c. noted_of old.noted (of_resolver c unfit) key.bucket) cuts,
    ),
    kept,
  )

  pub put_is : (seen : List Dot) (content : Content) (w at : ℕ) (result : Result Dot QuorumFault) (c : ℕ) (l : List ℕ) → c ≡ coordinator old key at → l ≡ the_others old key at
      → ((found : Result (Option Program) NotSeen) × (calls : List Call) × finds old.hooks key.bucket PreCommit found new.hooks × Made happens old.peers calls new.peers
      × IsJudgedPut old.listed c l key w seen content found calls result)
      → IsKept old new → new.noted ≡ noted_of old.noted (of_put result) key.bucket → Puts happens finds old key seen content w at result new
  put_is seen content w at result c l leads is (found, calls, look_up, made, judged) kept noted = (
    found,
    calls,
    look_up,
    made,
    subst (λ x. IsJudgedPut old.listed x (the_others old key at) key w seen content found calls result) leads
        (subst (λ l. IsJudgedPut old.listed c l key w seen content found calls result) is judged),
    kept,
    noted,
  )
