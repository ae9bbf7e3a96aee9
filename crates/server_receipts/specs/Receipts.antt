-- What an answer tells of the journals of a cluster, by the receipts of its own calls (dotted version vectors, Preguiça et al. 2010;
-- Riak KV documentation, reads and writes).
use Rattle.std.specs.Prelude.{◌≡◌, ◌⊎◌, ℕ, suc, ◌+◌, ◌≤◌, true, List, [], ◌∷◌, ◌++◌, length, nat_le, Option, None, Some, Result, Ok, Err}
use Rattle.std.specs.List.{AllByRecursion, Contains}
use Rattle.bpf_image.specs.declared.image.ImageKind.{ImageKind}
use Rattle.bpf_image.specs.declared.image.ImageKind.TheVariants.{Resolver}
use Rattle.bpf_verifier.specs.Program.{Program}
use Rattle.dvv.specs.declared.Dot.{Dot}
use Rattle.key_state.specs.declared.content.Content.{Content}
use Rattle.key_state.specs.declared.content.Key.{Key}
use Rattle.key_state.specs.State.{State}
use Rattle.journal.specs.Entry.{Entry}
use Rattle.journal.specs.Logs.{Log}
use Rattle.journal.specs.Replay.{IsNextDot, IsReplay, known_in}
use Rattle.vnode.specs.declared.fault.PartFault.{PartFault}
use Rattle.hook_run.specs.declared.resolving.Resolution.{Resolution}
use Rattle.hook_run.specs.Resolving.{IsResolution, chosen_by}
use Rattle.hook_registry.specs.Changes.{Change}
use Rattle.hook_registry.specs.declared.fault.HookFault.{HookFault}
use Rattle.hook_registry.specs.declared.fault.NameFault.{NameFault}
use Rattle.hook_registry.specs.declared.fault.NotSeen.{NotSeen}
use Rattle.http_request.specs.declared.ask.Call.{Call}
use Rattle.http_request.specs.declared.ask.Call.TheVariants as ask
use Rattle.http_response.specs.declared.reply.Reply.{Reply}
use Rattle.http_response.specs.declared.reply.Reply.TheVariants.{Got, Stored}
use Rattle.http_connection.specs.Dialogue.{Does, Exchange, call_of}
use Rattle.cluster_stamps.specs.declared.request.Reply.{Reply as VnodeReply}
use Rattle.cluster_stamps.specs.declared.request.Reply.TheVariants as reply
use Rattle.cluster_stamps.specs.declared.request.Request.{Request}
use Rattle.cluster_stamps.specs.declared.request.Request.TheVariants as request
use Rattle.cluster_stamps.specs.declared.view.News.TheVariants as news
use Rattle.cluster_stamps.specs.declared.view.Size.{Size}
use Rattle.cluster_stamps.specs.declared.view.Told.{Told}
use Rattle.cluster_vnode.specs.Answers.{entry_of_call, log_of}
use Rattle.cluster_vnode.specs.Calls.{LiesBehind}
use Rattle.cluster_vnode.specs.Gathers.{Stands}
use Rattle.server_store.specs.Calls.{coordinator, list, the_others}
use Rattle.server_store.specs.View.{StoreView}
use Rattle.server_one_thread.specs.Passes.{GivesUnnoted, PassCalls, Passing, told_by}
use Rattle.server_one_thread.specs.Reads.{ShowsCurrent}

-- ---- receipts

-- this was told by the vnode of this index: the request and what it came to
abbrev pub IsReceipt : Size → ℕ → Request → Result VnodeReply PartFault → Told → Type 0
IsReceipt size i asked outcome t = (t.vnode ≡ size.first + i) × (t.news ≡ news.Call asked outcome)

-- a request that was accepted, and one that was refused
abbrev pub IsAccepted : Size → ℕ → Request → VnodeReply → Told → Type 0
IsAccepted size i asked told t = IsReceipt size i asked (Ok told) t

abbrev pub IsRefused : Size → ℕ → Request → PartFault → Told → Type 0
IsRefused size i asked why t = IsReceipt size i asked (Err why) t

-- the journal of a receipt's vnode before the call
abbrev pub front_of : (logs : List Log) (t : Told) → Stands logs t → Log
front_of logs t up = log_of t.vnode up.3.0

-- its entries up to the call, with the call's own
abbrev pub up_to : (logs : List Log) (t : Told) → Stands logs t → List Entry
up_to logs t up = up.3.0 ++ entry_of_call t

-- each of these receipts lies behind those that the pass had before, and behind those before it here: the journal of its vnode had all
-- their entries of the vnode, and its stamp is above theirs, whichever vnodes they are of
abbrev pub AreBehind : List Told → List Told → Type 0
AreBehind before [] = Unit {0}
AreBehind before (t ∷ ts) = LiesBehind t before × AreBehind (before ++ t ∷ []) ts

-- a vnode was asked to merge into the key, whatever it came to
abbrev pub IsMergeReceipt : Key → Told → Type 0
IsMergeReceipt key t = (from at : ℕ) × (state : State) × (came : Result VnodeReply PartFault) × (t.news ≡ news.Call (request.Merge key from at state) came)

-- ---- reads

-- each of these vnodes was asked for the key's state, in order, and these are the receipts: of those that answered, the journals are
-- shown as they were before; one may have refused, or have told nothing, where the call was lost or memory lacked
pub data ReadAt (size : Size) (logs : List Log) (key : Key) : List ℕ → List Told → List Log → Type 0 where
  all_asked : ReadAt size logs key [] [] []
  answered : (i : ℕ) (vnodes : List ℕ) (t : Told) (own : List Told) (fronts : List Log) (state : State) → IsAccepted size i (request.Read key) (reply.State state) t → (up : Stands logs t)
      → ReadAt size logs key vnodes own fronts → ReadAt size logs key (i ∷ vnodes) (t ∷ own) (front_of logs t up ∷ fronts)
  refused : (i : ℕ) (vnodes : List ℕ) (t : Told) (own : List Told) (fronts : List Log) (why : PartFault) → IsRefused size i (request.Read key) why t
      → ReadAt size logs key vnodes own fronts → ReadAt size logs key (i ∷ vnodes) (t ∷ own) fronts
  silent : (i : ℕ) (vnodes : List ℕ) (own : List Told) (fronts : List Log) → ReadAt size logs key vnodes own fronts → ReadAt size logs key (i ∷ vnodes) own fronts

-- what the bucket's resolver wrote where the merge of what came has several siblings: the content that it chose was put at the
-- coordinator as one who had seen them all, and the answer is what the coordinator's journal, with the put's entry, left at the read
-- behind it
pub record IsResolvedBy {H : Type 0} (finds : H → List ℕ → ImageKind → Result (Option Program) NotSeen → H → Type 0) (logs : List Log) (old new : StoreView Passing H) (key : Key) (at : ℕ) (merged : State) (own : List Told)
    (state : State) : Type 0 where
  pub several : nat_le 2 (length merged.siblings) ≡ true
  pub program : Program
  pub found : finds old.hooks key.bucket Resolver (Ok (Some program)) new.hooks
  pub resolution : Resolution
  pub ran : IsResolution old.listed program merged.siblings resolution
  pub content : Content
  pub chose : chosen_by resolution merged.siblings ≡ Some content
  pub before : List Told
  pub put : Told
  pub read : Told
  pub parts : own ≡ before ++ put ∷ read ∷ []
  pub dot : Dot
  pub written : IsAccepted old.peers.size (coordinator old key at) (request.Put key merged.clock content) (reply.Dot dot) put
  pub answered : IsAccepted old.peers.size (coordinator old key at) (request.Read key) (reply.State state) read
  pub put_stands : Stands logs put
  pub next : IsNextDot (front_of logs put put_stands).entries key put.vnode dot
  pub read_stands : Stands logs read
  pub more : List Entry
  pub behind : (front_of logs read read_stands).entries ≡ up_to logs put put_stands ++ more
  pub leaves : IsReplay (front_of logs read read_stands).entries key state

-- what the answer to a read shows: at least r vnodes of the key's list answered, and what is current among the writes that their
-- journals had brought before is answered, or what the bucket's resolver made of it; between these receipts lie those of read repair,
-- which reads nothing
pub record IsCurrentBy {H : Type 0} (finds : H → List ℕ → ImageKind → Result (Option Program) NotSeen → H → Type 0) (logs : List Log) (old new : StoreView Passing H) (key : Key) (r at : ℕ) (own : List Told)
    (state : State) : Type 0 where
  pub asked : List Told
  pub repairs : List Told
  pub last : List Told
  pub parts : own ≡ asked ++ (repairs ++ last)
  pub are_merges : AllByRecursion (IsMergeReceipt key) repairs
  pub fronts : List Log
  pub theirs : ReadAt old.peers.size logs key (list old key) asked fronts
  pub enough : r ≤ length fronts
  pub merged : State
  pub current : ShowsCurrent key fronts merged
  pub answer : (state ≡ merged) ⊎ IsResolvedBy finds logs old new key at merged last state

-- ---- writes

-- so many of these vnodes know a dot: each by a receipt, up to which its journal knows it
pub data KnowAt (size : Size) (logs : List Log) (key : Key) (dot : Dot) (own : List Told) : List ℕ → ℕ → Type 0 where
  nobody : KnowAt size logs key dot own [] 0
  knows : (i : ℕ) (vnodes : List ℕ) (n : ℕ) (t : Told) → Contains own t → t.vnode ≡ size.first + i → (up : Stands logs t) → known_in (up_to logs t up) key dot ≡ true
      → KnowAt size logs key dot own vnodes n → KnowAt size logs key dot own (i ∷ vnodes) (suc n)
  may_not : (i : ℕ) (vnodes : List ℕ) (n : ℕ) → KnowAt size logs key dot own vnodes n → KnowAt size logs key dot own (i ∷ vnodes) n

-- what the answer to a write tells: at the put's receipt the coordinator's journal has the entry of the put under this dot, the next of
-- the vnode, and at least w vnodes of the key's list know it at receipts from there on
pub record IsStoredBy {H : Type 0} (logs : List Log) (old : StoreView Passing H) (key : Key) (seen : List Dot) (w at : ℕ) (own : List Told) (dot : Dot) : Type 0 where
  pub before : List Told
  pub put : Told
  pub behind : List Told
  pub parts : own ≡ before ++ put ∷ behind
  pub content : Content
  pub written : IsAccepted old.peers.size (coordinator old key at) (request.Put key seen content) (reply.Dot dot) put
  pub stands : Stands logs put
  pub next : IsNextDot (front_of logs put stands).entries key put.vnode dot
  pub count : ℕ
  pub know : KnowAt old.peers.size logs key dot (put ∷ behind) (coordinator old key at ∷ the_others old key at) count
  pub copies : w ≤ count

-- ---- exchanges

-- what a read that found, and a write that went through, tell of the journals, by their own receipts
abbrev pub TellsBy : {H : Type 0} → (H → List ℕ → ImageKind → Result (Option Program) NotSeen → H → Type 0) → List Log → StoreView Passing H → StoreView Passing H → Call → Reply → List Told → Type 0
TellsBy finds logs old new (ask.Get key r at) (Got (Ok state)) own = IsCurrentBy finds logs old new key r at own state
TellsBy finds logs old new (ask.Put key seen content w at) (Stored (Ok dot)) own = IsStoredBy logs old key seen w at own dot
TellsBy finds logs old new call reply own = Unit {0}

-- a request that makes no call tells nothing
abbrev pub IsToldBy : {H : Type 0} → (H → List ℕ → ImageKind → Result (Option Program) NotSeen → H → Type 0) → List Log → StoreView Passing H → StoreView Passing H → Option Call → Reply → List Told → Type 0
IsToldBy finds logs old new None reply own = Unit {0}
IsToldBy finds logs old new (Some call) reply own = TellsBy finds logs old new call reply own

-- one after the other each exchange makes its call on the store, these are the receipts that its pass has of it, behind those of
-- before, and its answer tells of the journals by them
abbrev pub AreToldBy : {H : Type 0} → (H → List ℕ → ImageKind → Result (Option Program) NotSeen → H → Type 0) → (H → List ℕ → ImageKind → Result (Option (List ℕ)) NameFault → H → Type 0)
    → (H → Change → Result Unit HookFault → H → Type 0) → List Log → StoreView Passing H → List Exchange → List (List Told) → StoreView Passing H → Type 0
AreToldBy finds names takes logs old [] [] new = new ≡ old
AreToldBy finds names takes logs old [] (own ∷ owns) new = ⊥
AreToldBy finds names takes logs old (x ∷ xs) [] new = ⊥
AreToldBy {H} finds names takes logs old (x ∷ xs) (own ∷ owns) new =
    (mid : StoreView Passing H) × Does (GivesUnnoted PassCalls finds names takes) old (call_of x.asked) x.reply mid × (told_by mid ≡ told_by old ++ own)
    × AreBehind (told_by old) own × IsToldBy finds logs old mid (call_of x.asked) x.reply own × AreToldBy finds names takes logs mid xs owns new
